-- The table of the signals that a target follows.
use Rattle.std.proofs.Common.{◌≡◌, ℕ, ◌||◌, zero, suc, ◌<◌, Bool, true, List, [], ◌∷◌, length, sym}
use Rattle.std.proofs.Common.{subst, ◌∙◌, arith, Vec, Global}
use Rattle.std.specs.Prelude.{Contains, IsTrue, IfOk, Result}
use Rattle.std.specs.List.{list_any, range_with_len}
use Rattle.sv_flat.specs.Assigned.{assigns}
use Rattle.sv_flat.specs.Clocks.{processes_of}
use Rattle.sv_flat.specs.Design.{ProcessForm, FlatDesign}
use Rattle.sv_flat.specs.Reads.{followed, wants}
use Rattle.sv_flat.specs.Sets.{holds, those, least_set, with_all_brought}
use Rattle.sv_flat.proofs.LeastSets.{those_pass, in_those, Contains-from_holds, holds-from_Contains}
use Rattle.sv_graph.specs.declared.graphs.Graph.{Graph}
use Rattle.sv_design.specs.Designs.{IsDesign}
use Rattle.sv_design.specs.Feeds.{AreWants, feeds_in}
use Rattle.sv_graph.specs.Graphs.{size}
use Rattle.sv_graph.specs.Marks.{IsTable, is_marked, followed_in}
use Rattle.sv_graph.specs.Searches.{Brings}
use Rattle.sv_graph.proofs.BitFacts.{same_answer}
use Rattle.sv_graph.proofs.Differing.{filter_same}
use Rattle.sv_design.proofs.FeedFacts.{followed_is, one_driver, drivers_unbroken}
use Rattle.sv_graph.proofs.FollowFacts.{only_one}
use Rattle.sv_rules.proofs.PhaseFacts.{in_range}
use Rattle.sv_graph.proofs.FoundTables.{if_ok}
use Rattle.sv_rules.proofs.TopTables.{all_brought}

-- a least set over some signals lists what it holds
least_listed : (n : ℕ) (brings : ℕ → ℕ → Bool) (first : List ℕ) (s : ℕ) → s < n →
    (test : ℕ → Bool) → ((k : ℕ) → k < n → test k ≡ holds (least_set n brings first) k) →
    those n test ≡ least_set n brings first
least_listed zero brings first s low test same = absurd (omega arith)
least_listed (suc m) brings first s low test same =
    let before = with_all_brought (suc m) brings first m in
    let more = λ (k : ℕ). holds before k || list_any (λ t. brings t k) before in
    filter_same test more (range_with_len 0 (suc m)) (λ k at.
    let below = in_range (suc m) k at in
    same k below ∙ same_answer (holds (those (suc m) more) k) (more k)
    (λ h. those_pass (suc m) more k (Contains-from_holds (those (suc m) more) k h))
    (λ h. holds-from_Contains (those (suc m) more) k (in_those (suc m) more k below h)))

module _ (design : FlatDesign) (wants_graph : Graph) (are : AreWants design wants_graph) (s : ℕ) where
  abbrev n : ℕ
  n = length design.signals

  -- an earlier read in some process serves the first signal
  abbrev brings : ℕ → ℕ → Bool
  brings m k = feeds_in design.signals true (processes_of design) k m

  bring : Brings wants_graph 0 brings
  bring = all_brought wants_graph brings (λ a b. sym (are.2 a b))

  -- what a search from the signal gives
  abbrev Found : Vec Bool Global → Type 0
  Found table = (leads : ℕ → ℕ → Bool) → Brings wants_graph 0 leads
      → IsTable (size wants_graph) table.items (holds (least_set (size wants_graph) leads (s ∷ [])))

  pub starts_below : s < n → (k : ℕ) → Contains (s ∷ []) k → k < size wants_graph
  starts_below below k at =
      subst (λ m. k < m) (sym are.0) (subst (λ z. z < n) (only_one s k at) below)

  is_table : (table : Vec Bool Global) → Found table
      → IsTable n table.items (holds (least_set n brings (s ∷ [])))
  is_table table found =
      subst (λ m. IsTable m table.items (holds (least_set m brings (s ∷ [])))) are.0
      (found brings bring)

  pub table_size : {E : Type 0} → (s < n) → (result : Result (Vec Bool Global) E) → IfOk result Found →
      IfOk result (λ table. length table.items ≡ n)
  table_size below result found =
      if_ok Found (λ (table : Vec Bool Global). length table.items ≡ n) result
      (λ table f. (is_table table f).0) found

  pub table_follows : {E : Type 0} → IsDesign design → (s < n) → (result : Result (Vec Bool Global) E)
      → IfOk result Found → IfOk result (λ table. (p : ProcessForm)
      → Contains (processes_of design) p → IsTrue (assigns p.body s)
      → followed_in table.items ≡ followed design p s)
  table_follows is below result found =
      if_ok Found (λ (table : Vec Bool Global). (p : ProcessForm)
      → Contains (processes_of design) p → IsTrue (assigns p.body s)
      → followed_in table.items ≡ followed design p s) result
      (λ table f p at own.
      let t = is_table table f in
      let one = one_driver design (drivers_unbroken design is.is_admitted.unbroken) in
      subst (λ m. those m (is_marked table.items) ≡ followed design p s) (sym t.0)
      (least_listed n (wants design p) (s ∷ []) s below (is_marked table.items) (λ k k_below.
      t.1 k k_below ∙ followed_is design one s below p at own k)))
      found
