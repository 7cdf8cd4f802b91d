-- How a page looks: colours by day and by night, and which element has which.
use Rattle.std.specs.Prelude.{ℕ, List, [], ◌++◌, codes, Option, Some, None}
use Rattle.picture_text.specs.declared.detail.Detail.{Detail}

-- colours by day
abbrev pub day : List ℕ
day =
    codes "<style>\n:root{color-scheme:light dark;--bg:#fff;--ink:#0f172a;--dim:#64748b;--edge:#e2e8f0;\n"
    ++ (codes "--grid:#eef2f7;--over:#f1f5f9;--act:#10b981;--on:#fff;--bar:78% 86%;--method:#4f46e5;\n"
    ++ (codes "--ok:#047857;--ok-bg:#d1fae5;--bad:#b91c1c;--bad-bg:#fee2e2;--mono:ui-monospace,SFMono-Regular,\n"
    ++ codes "Menlo,Consolas,\"DejaVu Sans Mono\",\"Liberation Mono\",monospace}\n"))

-- colours by night
abbrev pub night : List ℕ
night =
    codes "@media (prefers-color-scheme:dark){:root{--bg:#0b1120;--ink:#e2e8f0;--dim:#94a3b8;--edge:#1e293b;\n"
    ++ (codes "--grid:#172036;--over:#16203a;--act:#34d399;--on:#06281f;--bar:40% 42%;--method:#a5b4fc;\n"
    ++ codes "--ok:#6ee7b7;--ok-bg:#064e3b;--bad:#f87171;--bad-bg:#2c1518}}\n")

-- the page around the rows
abbrev pub frame : List ℕ
frame =
    codes "*{box-sizing:border-box}body{margin:0;background:var(--bg);color:var(--ink)}\n"
    ++ (codes "body{font:14px/1.45 system-ui,sans-serif}main{max-width:1240px;margin:0 auto;padding:28px 24px 60px}\n"
    ++ (codes "header{margin:0 0 20px}header p{margin:6px 0 0;color:var(--dim)}h2{margin:34px 0 10px;font-size:15px}\n"
    ++ codes "h1{display:inline;margin:0 12px 0 0;font-size:22px;overflow-wrap:anywhere}\n"))

-- the verdict, and what is around the outline and the tree
abbrev pub boxes : List ℕ
boxes =
    codes ".verdict{padding:3px 11px;border-radius:12px;font-weight:600;color:var(--ok);background:var(--ok-bg)}\n"
    ++ (codes ".verdict.no{color:var(--bad);background:var(--bad-bg)}.chart{max-width:calc(480px + var(--n)*56px)}\n"
    ++ (codes ".chart,.tree{border:1px solid var(--edge);border-radius:10px}.tree svg{display:block;border-radius:10px}\n"
    ++ codes ".tree{overflow:auto;width:fit-content;max-width:100%}\n"))

-- why the verdict is so
abbrev pub why : List ℕ
why =
    codes ".why{margin:0;padding:12px 16px;overflow:auto;border-left:4px solid var(--edge);border-radius:0 10px 10px 0}\n"
    ++ (codes ".why{font:12.5px/1.5 var(--mono);color:var(--dim)}\n"
    ++ (codes ".why.no{border-color:var(--bad);color:var(--ink);background:var(--bad-bg)}\n"
    ++ codes ".why.no::first-line{font-weight:600;color:var(--bad)}\n"))

-- the run
abbrev pub run : List ℕ
run =
    codes ".run{overflow:auto;border:1px solid var(--edge);border-radius:10px}\n"
    ++ (codes "table{width:100%;border-collapse:collapse;font:12.5px/1.45 var(--mono)}\n"
    ++ (codes "th,td{padding:5px 12px;text-align:left;vertical-align:top;border-top:1px solid var(--grid)}\n"
    ++ (codes "th{border:0;color:var(--dim);font-weight:400}th+th+th{width:36%}td span,td+td:not([class]){white-space:nowrap}\n"
    ++ (codes "td:first-child{width:1%;text-align:right;font-weight:700}td:first-child,.add{color:var(--ok)}\n"
    ++ codes ".del{color:var(--bad)}\n"))))

-- the legend
abbrev pub legend : List ℕ
legend =
    codes ".key{display:flex;flex-wrap:wrap;gap:2px 18px;color:var(--dim);font-size:12.5px}\n"
    ++ (codes ".key i{display:inline-block;width:18px;height:10px;margin-right:6px;border-radius:3px}\n"
    ++ codes ".key i{background:hsl(230 var(--bar))}.key .a{background:var(--act)}\n")

-- rows, and how they fold
abbrev pub rows : List ℕ
rows =
    codes ".row{display:grid;grid-template-columns:min(460px,75%) minmax(0,1fr);border-top:1px solid var(--grid)}\n"
    ++ (codes ".row:hover,.row:target{background:var(--over)}summary{list-style:none;cursor:pointer}\n"
    ++ (codes "summary::-webkit-details-marker{display:none}.head:hover{background:var(--bg)}\n"
    ++ codes ".head{position:sticky;top:0;z-index:2;border:0;border-radius:10px;color:var(--dim);background:var(--bg)}\n"))

-- the words of rows
abbrev pub words : List ℕ
words =
    codes ".label{--in:min(var(--d,0)*18px,50%);display:flex;align-items:baseline;gap:8px;min-width:0;\n"
    ++ (codes "padding:4px 10px 4px calc(12px + var(--in));overflow-wrap:anywhere;font-size:12.5px;\n"
    ++ (codes "font-family:var(--mono);\n"
    ++ (codes "background:repeating-linear-gradient(to right,transparent 0 17px,var(--edge) 17px 18px) no-repeat;\n"
    ++ codes "background-size:var(--in) 100%}.label small{color:var(--dim)}em{font-style:normal;color:var(--method)}\n")))

-- the line that is marked
abbrev pub marks : List ℕ
marks =
    codes "mark{padding:0 6px;border-radius:8px;font-weight:600;background:var(--bad-bg)}\n"
    ++ codes "mark,.bad em,.bad .label b{color:var(--bad)}\n"

-- the signs before the words
abbrev pub signs : List ℕ
signs =
    codes ".label>b{flex:none;min-width:14px}.label .sign{color:var(--dim);font-size:9px}\n"
    ++ (codes ".sign:before{content:\"\\25cb\"}summary .sign:before{content:\"\\25b6\"}\n"
    ++ (codes "details[open]>summary .sign:before{content:\"\\25bc\"}\n"
    ++ (codes ".label .no{min-width:22px;padding:0 5px;border-radius:9px;text-align:center;font-size:11px}\n"
    ++ codes ".label .no{color:var(--on);background:var(--ok)}.bad .label .no{color:var(--bg);background:var(--bad)}\n")))

-- the time line
abbrev pub time : List ℕ
time =
    codes ".time{position:relative;margin-right:14px;border-left:1px solid var(--edge);\n"
    ++ (codes "background:linear-gradient(to right,var(--grid) 1px,transparent 1px);\n"
    ++ (codes "background-size:calc(100%*var(--s)/var(--n)) 100%}.time u{text-decoration:none;font-size:11px}\n"
    ++ (codes ".time u,.time i{position:absolute;left:calc(100%*var(--a)/var(--n))}.time u{top:7px}\n"
    ++ codes ".time u{margin-left:calc(50%/var(--n));transform:translateX(-50%)}.head .time{background:none}\n")))

-- its bars
abbrev pub bars : List ℕ
bars =
    codes ".time i{width:calc(100%*(var(--b) - var(--a) + 1)/var(--n));min-width:2px;top:0;bottom:0}\n"
    ++ (codes ".time i{height:12px;margin:auto 0}.act .time i{height:16px;background:var(--act)}\n"
    ++ (codes ".time i{border-radius:4px;background:hsl(calc(230 + var(--d,0)*12) var(--bar))}.time .link{height:2px}\n"
    ++ codes ".bad .time i{background:var(--bad)}.time:has(u:nth-child(24)) u:nth-child(2n){display:none}\n"))

-- fewer numbers above the time line of a narrow page
abbrev pub narrow : List ℕ
narrow =
    codes "@media(max-width:1150px){.time:has(u:nth-child(11)) u:not(:nth-child(5n+1)){display:none}}\n"
    ++ codes "@media(max-width:700px){.time:has(u:nth-child(11)) u:not(:nth-child(10n+1)){display:none}}\n"

-- a page on paper
abbrev pub paper : List ℕ
paper =
    codes "@media print{.head{position:static}.why{white-space:pre-wrap}.why,.tree,.run{overflow:visible}\n"
    ++ (codes ".tree svg{max-width:100%;height:auto}.row,tr{break-inside:avoid}\n"
    ++ (codes "td,td span,td+td:not([class]){white-space:normal}.why,td{overflow-wrap:anywhere}\n"
    ++ codes ".row *,.key i{-webkit-print-color-adjust:exact;print-color-adjust:exact}}\n</style>\n"))

-- colours
abbrev pub colours : List ℕ
colours = day ++ night

-- what is around the rows
abbrev pub around : List ℕ
around = frame ++ (boxes ++ (why ++ (run ++ legend)))

-- the outline
abbrev pub outline : List ℕ
outline = rows ++ (words ++ (marks ++ signs))

-- the time line
abbrev pub line : List ℕ
line = time ++ (bars ++ (narrow ++ paper))

-- all of it
abbrev pub style : List ℕ
style = colours ++ (around ++ (outline ++ line))

-- what a solution says of lines, and the signs of tests
abbrev pub details_style : List ℕ
details_style =
    codes "<style>\n.row:not(.head){position:relative}.tip{display:none;position:absolute;z-index:3;margin-left:12px}\n"
    ++ (codes ".tip{left:min(460px,75%);top:calc(100% - 2px);padding:8px 12px;border-radius:8px;pointer-events:none}\n"
    ++ (codes ".tip{width:max-content;max-width:calc(100vw - 560px);overflow-wrap:anywhere}\n"
    ++ (codes ".tip{background:var(--ink);color:var(--bg);font:12px/1.5 var(--mono);white-space:pre-wrap}\n"
    ++ (codes ".row:hover>.tip:not(:empty),.row:focus-visible>.tip:not(:empty){display:block}\n"
    ++ (codes ".time .p,.key .p{width:9px;height:9px;min-width:0;border:2px solid var(--method);border-radius:0}\n"
    ++ (codes ".time .p,.key .p{background:var(--bg);transform:rotate(45deg)}\n"
    ++ (codes ".time .p{margin:auto 0 auto -5px}@media print{.tip{display:none!important}}\n"
    ++ codes "@media(max-width:800px){.tip{left:0;max-width:calc(100vw - 84px)}}\n</style>\n")))))))

-- the same, if anything is said of lines
abbrev pub more_style : Option (List Detail) → List ℕ
more_style None = []
more_style (Some details) = details_style
