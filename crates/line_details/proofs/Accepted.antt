-- Valid files have details.
use Rattle.std.proofs.Common.{◌≡◌, ℕ, [], ◌∷◌, ◌++◌, Some, sym, refl, ap, ◌∙◌, subst}
use Rattle.htn_model.specs.Problem.{GroundTask, Problem}
use Rattle.htn_model.specs.Tree.{compound, Nodes, Place, node_at}
use Rattle.htn_model.specs.PlanFile.{DecompositionLine, PlanFile, Naming, IsIn, IsForest}
use Rattle.htn_model.specs.Shadow.{compounds_from, IsDecompositionLine, HasId, IsAccepted}
use Rattle.htn_model.proofs.Fitted.{compound_has_line}
use Rattle.htn_model.proofs.Marked.{decompositions_distinct}
use Rattle.htn_model.proofs.Numbered.{IsCompound, in_compounds}
use Rattle.htn_model.proofs.Rooms.{valid_is_acceptance}
use Rattle.line_details.specs.Details.{actions_before, Details, AreDetailsAt, AreDetails, ValidFilesHaveDetails}
use Rattle.line_details.proofs.Detailed.{place_of_line}
use Rattle.line_details.proofs.Picked.{pick}

module _ (naming : Naming) (problem : Problem) (file : PlanFile) (is_forest : IsForest file) (accepted : IsAccepted naming problem file) where
  -- the trees of the solution
  abbrev trees : Nodes
  trees = accepted.solution.trees

  -- the id of a node
  abbrev id_at : Place → ℕ
  id_at = accepted.shadow.id_at

  -- the number of a line's instance, and the gap at each position
  record Found : Type 0 where
    number : ℕ
    gap : ℕ → ℕ

  -- how many actions come before a position
  abbrev gap_at : Place → ℕ → ℕ
  gap_at p a = actions_before trees accepted.solution.linearisation (p ++ a ∷ [])

  -- they are those of the line's node
  record IsFound (line : DecompositionLine) (found : Found) : Type 0 where
    place : Place
    is : IsDecompositionLine naming trees id_at place line
    number : found.number ≡ is.number
    gap : (a : ℕ) → found.gap a ≡ gap_at place a

  -- each line has them
  each_found : (line : DecompositionLine) → IsIn line file.decompositions → (found : Found) × IsFound line found
  each_found line i =
      let (p, is) = place_of_line naming trees id_at (compounds_from [] 0 trees) file.decompositions accepted.shadow.decompositions line i in
      (record { number = is.number; gap = gap_at p }, record { place = p; is = is; number = refl; gap = λ a. refl })

  -- by the lines' ids
  found_by_id : (f : ℕ → Found) × ((line : DecompositionLine) → IsIn line file.decompositions → IsFound line (f line.id))
  found_by_id = pick IsFound (record { number = 0; gap = λ a. 0 }) file.decompositions (decompositions_distinct file is_forest) each_found

  -- the details of the solution
  abbrev details : Details
  details = record { initial = accepted.solution.number; number = λ id. (found_by_id.0 id).number; gap = λ id a. (found_by_id.0 id).gap a }

  -- at each compound node
  at_node : (p : Place) (t : GroundTask) (n : ℕ) (nodes : Nodes) → node_at trees p ≡ Some (compound t n nodes) → AreDetailsAt details accepted.solution p (id_at p) n nodes
  at_node p t n nodes e =
      let h : IsCompound (node_at trees p) = subst IsCompound (sym e) tt in
      let (line, listed, is) = compound_has_line naming trees id_at (compounds_from [] 0 trees) file.decompositions accepted.shadow.decompositions p (in_compounds trees p h) in
      let g = found_by_id.1 line listed in
      let same : g.place ≡ p = accepted.shadow.one_to_one g.place p (subst HasId (sym g.is.stands) tt) (subst HasId (sym e) tt) (sym g.is.id ∙ is.id) in
      let both : Some (compound g.is.task g.is.number g.is.nodes) ≡ Some (compound t n nodes) = sym g.is.stands ∙ ap (node_at trees) same ∙ e in
      let numbers : g.is.number ≡ n = cc in
      record {
        number = ap (λ id. (found_by_id.0 id).number) (sym is.id) ∙ g.number ∙ numbers;
        gap = λ a literals child. ap (λ id. (found_by_id.0 id).gap a) (sym is.id) ∙ g.gap a ∙ ap (λ q. gap_at q a) same;
      }

  -- an accepted file has details
  has_details : (details : Details) × AreDetails naming problem file details
  has_details = (details, record { solution = accepted.solution; solves = accepted.solves; shadow = accepted.shadow; initial = refl; each = at_node })

-- a file is valid exactly if it has details
pub valid_files_have_details : (naming : Naming) (problem : Problem) → ValidFilesHaveDetails naming problem
valid_files_have_details naming problem file = (
  (λ v. has_details naming problem file v.0 v.3),
  (λ d. (valid_is_acceptance naming problem file).1 (record { solution = d.1.solution; solves = d.1.solves; shadow = d.1.shadow })),
)
