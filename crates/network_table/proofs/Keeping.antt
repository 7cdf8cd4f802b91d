-- Many networks that get their numbers at once.
use Rattle.std.proofs.Common.{◌≡◌, ℕ, ◌<◌, ◌+◌, List, [], ◌++◌, map, length, get_or, drop, refl, sym, ap, ap₂, subst, ◌∙◌, arith, All, Contains, length-append}
use Rattle.std.proofs.Math.Seq.{drop-append_seam}
use Rattle.std.proofs.lemmas.List.{get_or-map, length-map, map-append, same_lists}
use Rattle.std.proofs.lemmas.List.Elements.{All-append, All-map}
use Rattle.htn_model.specs.PlanFile.{IsWithoutRepeats}
use Rattle.network_table.specs.Numbered.{Numbered, IsWithin, nothing}
use Rattle.htn_model.specs.Problem.{Child}
use Rattle.network_table.specs.Entries.{IsAlone, IsKeptWhole, network_by, networks_alone}
use Rattle.network_table.specs.Children.{AreWhole, numbered_children}
use Rattle.network_table.specs.Networks.{bound_of, children, IsWhole}
use Rattle.network_table.specs.Measures.{measure_of}
use Rattle.network_table.specs.declared.child_table.ChildTable.{ChildTable}
use Rattle.network_table.specs.declared.keep_all.Measure.{Measure}
use Rattle.network_table.specs.declared.network_set.Entry.{Entry}
use Rattle.network_table.specs.declared.table.NetworkTable.{NetworkTable}
use Rattle.network_table.proofs.Alone.{alone_whole, contained_all}
use Rattle.network_table.proofs.Expanding.{map_two}

-- slots that hold the measure of each network
pub slots_are : (measure : Numbered → Measure) (networks : List Numbered) (slots : List Measure) → length slots ≡ length networks
    → ((k : ℕ) (d : Measure) → k < length slots → get_or slots k d ≡ measure (get_or networks k nothing)) → slots ≡ map measure networks
slots_are measure networks slots long each =
    same_lists slots (map measure networks) (omega (arith, long, length-map networks measure))
    (λ k d low. each k d low ∙ sym (get_or-map measure networks k nothing d (omega (arith, low, long))))

-- what comes behind others is what is left without these
pub left_more : (ns more all : List Numbered) (first : ℕ) → first ≡ length ns → all ≡ ns ++ more → drop first all ≡ more
left_more ns more all first long are = ap₂ (λ k l. drop k l) long are ∙ drop-append_seam ns more

-- networks of a batch that is kept whole are kept whole
pub more_fit : (batch : List Entry) (more : List Numbered) → All IsAlone batch → All (Contains (networks_alone batch)) more → All IsKeptWhole more
more_fit batch more alone are =
    contained_all IsKeptWhole (networks_alone batch) more (All-map IsKeptWhole (network_by []) batch (λ k d inside. alone_whole (get_or batch k d) (alone k d inside))) are

-- their nodes have numbers, if those of the batch have
pub more_within : (children : List Child) (batch : List Entry) (more : List Numbered) → All (IsWithin children) (networks_alone batch) → All (Contains (networks_alone batch)) more
    → All (IsWithin children) more
more_within children batch more within are = contained_all (IsWithin children) (networks_alone batch) more within are

-- a table before and after more networks get their numbers, and their measures are put down
module _ (s t : NetworkTable) (more : List Numbered) (measures : List Measure) (whole : IsWhole s) (children_are : t.children ≡ s.children) (networks_are : t.networks ≡ s.networks ++ more)
    (measured : measures ≡ map (measure_of s.children) more)
    (open_lens_are : t.open_lens.items ≡ s.open_lens.items ++ map (λ (m : Measure). m.open_len) measures)
    (bounds_are : t.bounds.items ≡ s.bounds.items ++ map (λ (m : Measure). m.bound) measures)
    (many : length t.expansions.items ≡ length s.expansions.items + length measures) where
  -- the counts of the nodes of more
  lens_more : map (λ (m : Measure). m.open_len) measures ≡ map (λ (n : Numbered). length n.nodes) more
  lens_more = ap (map (λ (m : Measure). m.open_len)) measured ∙ sym (map_two (λ (n : Numbered). length n.nodes) (measure_of s.children) (λ (m : Measure). m.open_len) (λ n. refl) more)

  -- the bounds of more
  bounds_more : map (λ (m : Measure). m.bound) measures ≡ map (bound_of s.children) more
  bounds_more = ap (map (λ (m : Measure). m.bound)) measured ∙ sym (map_two (bound_of s.children) (measure_of s.children) (λ (m : Measure). m.bound) (λ n. refl) more)

  -- the table stays whole
  pub whole_kept : All (IsWithin (children s)) more → IsWithoutRepeats t.networks → IsWhole t
  whole_kept within distinct = record {
    nodes = subst AreWhole (sym children_are) whole.nodes;
    distinct = distinct;
    within = subst (λ (c : ChildTable). All (IsWithin (numbered_children c)) t.networks) (sym children_are)
        (subst (All (IsWithin (children s))) (sym networks_are) (All-append (IsWithin (children s)) s.networks more whole.within within));
    open_lens = open_lens_are ∙ ap₂ (λ xs ys. xs ++ ys) whole.open_lens lens_more
        ∙ sym (ap (map (λ (n : Numbered). length n.nodes)) networks_are ∙ map-append (λ (n : Numbered). length n.nodes) s.networks more);
    bounds = bounds_are ∙ ap₂ (λ xs ys. xs ++ ys) whole.bounds bounds_more
        ∙ sym (ap₂ (λ (c : ChildTable) (l : List Numbered). map (bound_of c) l) children_are networks_are ∙ map-append (bound_of s.children) s.networks more);
    expansions = omega (arith, many, whole.expansions, ap length networks_are, length-append s.networks more, ap length measured, length-map more (measure_of s.children));
  }
