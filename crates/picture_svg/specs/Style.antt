-- How an SVG picture looks: colours by day and by night, and which element has which.
use Rattle.std.specs.Prelude.{ℕ, List, ◌++◌, codes}

-- colours
abbrev pub day : List ℕ
day =
    codes "<style>\n.t{--bg:#fff;--ink:#1e293b;--dim:#64748b;--line:#cbd5e1;--task:#eef2ff;--task-line:#c7d2fe;\n"
    ++ codes "--act:#ecfdf5;--act-line:#6ee7b7;--no:#047857;--bad:#dc2626;--bad-bg:#fef2f2}\n"

-- colours by night
abbrev pub night : List ℕ
night =
    codes "@media (prefers-color-scheme:dark){.t{--bg:#0f172a;--ink:#e2e8f0;--dim:#94a3b8;--line:#475569;\n"
    ++ (codes "--task:#1e2546;--task-line:#4152a8;--act:#0d2f28;--act-line:#0f766e;--no:#6ee7b7;\n" ++ codes "--bad:#f87171;--bad-bg:#3b1219}}\n")

-- letters
abbrev pub letters : List ℕ
letters =
    codes ".t text{fill:var(--ink);font:12px ui-monospace,SFMono-Regular,Menlo,Consolas,\n"
    ++ (codes "\"DejaVu Sans Mono\",\"Liberation Mono\",monospace}\n"
    ++ (codes ".t .n{font-weight:600}.t .m{fill:var(--dim);font-size:10.5px}" ++ codes ".t .no{fill:var(--no);font-weight:700;text-anchor:end}\n"))

-- lines and boxes
abbrev pub boxes : List ℕ
boxes =
    codes ".t .bg{fill:var(--bg)}.t path{fill:none;stroke:var(--line);stroke-width:1.5}\n"
    ++ (codes ".t .root{fill:none;stroke:var(--line)}.t .task{fill:var(--task);stroke:var(--task-line)}\n"
    ++ (codes ".t .act{fill:var(--act);stroke:var(--act-line)}.t g:hover rect{stroke:var(--dim);stroke-width:2}\n"
    ++ codes ".t .bad{fill:var(--bad-bg);stroke:var(--bad);stroke-width:2}.t .bad~.no{fill:var(--bad)}\n</style>\n"))

-- all of it
abbrev pub style : List ℕ
style = day ++ (night ++ (letters ++ boxes))
