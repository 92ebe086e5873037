-- Tables of what processes say of signals.
use Rattle.std.proofs.Common.{◌≡◌, ℕ, zero, suc, ◌+◌, ◌<◌, ◌≤◌, Bool, true, false, cond, ◌&&◌, ◌||◌}
use Rattle.std.proofs.Common.{nat_le, List, [], ◌∷◌, ◌++◌, length, map, get_or, drop}
use Rattle.std.proofs.Common.{take, replicate, None, ⊎_elim, refl, sym, ap, ap₂}
use Rattle.std.proofs.Common.{subst, ◌∙◌, arith}
use Rattle.std.specs.Prelude.{IsTrue, filter, is_some}
use Rattle.std.specs.List.{range_with_len}
use Rattle.std.proofs.lemmas.Bool.{false≢true, le-leb}
use Rattle.std.proofs.lemmas.List.{get_or-replicate, length-replicate, get_or-map, drop_all}
use Rattle.std.proofs.lemmas.List.{take_all, append-nil, length_push, get_or_push}
use Rattle.std.proofs.lemmas.List.{get_or_append_left}
use Rattle.std.proofs.lemmas.List.FromFn.{fill_by_all}
use Rattle.std.proofs.Math.ListN.{length-map}
use Rattle.sv_flat.specs.Clocks.{makes_clock, is_edge, is_clock}
use Rattle.sv_flat.specs.Design.{ProcessKind, combinational, clocked, continuous, port_in, port_out}
use Rattle.sv_flat.specs.Design.{release, ProcessForm, FlatDesign}
use Rattle.sv_flat.specs.Processes.{signals_that}
use Rattle.sv_flat.specs.Sets.{holds, least_set}
use Rattle.sv_flat.specs.Soundness.{kind_sound, process_sound}
use Rattle.sv_flat.specs.Soundness.{statement_sound, sound}
use Rattle.sv_flat.proofs.Depths.{first_of}
use Rattle.std.proofs.Common.{ltb-true}
use Rattle.sv_graph.specs.declared.graphs.Graph.{Graph}
use Rattle.sv_graph.specs.declared.searches.Search.{Search}
use Rattle.sv_rules.specs.DriverTables.{AreClocks}
use Rattle.sv_graph.specs.Graphs.{size, has_edge}
use Rattle.sv_graph.specs.Marks.{Marks, IsTable}
use Rattle.sv_rules.specs.ReadMarks.{HasClockBelow}
use Rattle.sv_graph.specs.Searches.{Brings, IsSearch}
use Rattle.sv_graph.proofs.SearchFacts.{below_or_at}
use Rattle.sv_rules.proofs.Sound.{few_are}

-- ---- lists of numbers

-- tests that agree below a bound keep the same numbers below it
pub filter_within : (p q : ℕ → Bool) (a n : ℕ) → ((k : ℕ) → k < a + n → p k ≡ q k)
    → filter p (range_with_len a n) ≡ filter q (range_with_len a n)
filter_within p q a zero same = refl
filter_within p q a (suc n) same =
    ap₂ (λ b xs. cond b (a ∷ xs) xs) (same a (omega arith))
    (filter_within p q (a + 1) n (λ k below. same k (omega arith)))

-- ---- marks

-- what is marked of a table without marks
pub from_nothing : (n : ℕ) (now : List Bool) (all : ℕ → Bool) → Marks (replicate n false) now all →
    length now ≡ n → IsTable n now all
from_nothing n now all marks size = (
  size,
  λ s below. marks s (subst (λ m. s < m) (sym (length-replicate n false)) below)
      ∙ ap (λ b. b || all s) (get_or-replicate n s false false below),
)

-- ---- clocks

pub clock_below : (design : FlatDesign) (p : ProcessForm) → IsTrue (process_sound design p) →
    HasClockBelow (length design.signals) p.kind
clock_below design p h =
    by p.kind (first_of (kind_sound design p.kind p.body) (statement_sound design.signals p.body) h)
  where
    by : (kind : ProcessKind) → IsTrue (kind_sound design kind p.body) →
        HasClockBelow (length design.signals) kind
    by (clocked clock) k = ltb-true clock (length design.signals) k
    by combinational k = tt
    by continuous k = tt
    by port_in k = tt
    by port_out k = tt
    by (release point) k = tt

and_yes : (a b : Bool) → IsTrue b → a ≡ (a && b)
and_yes true true h = refl
and_yes true false h = absurd (false≢true h)
and_yes false b h = refl

pub clocks_are : (design : FlatDesign) (graph : Graph) (search : Search) (starts : List ℕ)
    (table : List Bool)
    → size graph ≡ length design.signals → ((a b : ℕ) → has_edge graph a b ≡ makes_clock design a b)
    → starts ≡ signals_that design (is_edge design)
    → ((brings : ℕ → ℕ → Bool) → Brings graph 0 brings → IsSearch (size graph) brings starts search)
    → table ≡ map is_some search.places.items → AreClocks design table
clocks_are design graph search starts table same edges begun searched is =
    let brings = makes_clock design in
    let found = searched brings (λ a b.
    sym (edges a b) ∙ and_yes (has_edge graph a b) (nat_le 0 b) (le-leb 0 b (omega arith))) in
    let n = length design.signals in
    let places = search.places.items in
    let count : length places ≡ n = found.ended.size ∙ same in
    is ∙ fill_by_all (is_clock design) (map is_some places) n false (length-map places is_some
    ∙ count) (λ k below.
    get_or-map is_some places k None false (subst (λ m. k < m) (sym count) below)
    ∙ found.has k (subst (λ m. k < m) (sym same) below)
    ∙ ap₂ (λ m ss. holds (least_set m brings ss) k) same begun)

-- ---- writing back

-- a slice of a vector that keeps its length is its new value
pub written_back : {X : Type 0} (new items : List X) (n : ℕ) → length new ≡ length items
    → length items ≡ n
    → take n (new ++ drop (length new) items) ≡ new
written_back new items n size count =
    let most : length items ≤ length new = omega arith in
    ap (λ ys. take n (new ++ ys)) (drop_all (length new) items most)
    ∙ ap (take n) (append-nil new)
    ∙ take_all n new (omega arith)

-- the signals that a table has
pub listed_are : (n : ℕ) (table : List Bool) (test : ℕ → Bool) (m : ℕ)
    → IsTable n table test → m ≡ n
    → filter (λ s. get_or table s false) (range_with_len 0 (length table)) ≡
    filter test (range_with_len 0 m)
listed_are n table test m (size, has) same =
    ap (λ k. filter (λ s. get_or table s false) (range_with_len 0 k)) (size ∙ sym same)
    ∙ filter_within (λ s. get_or table s false) test 0 m (λ k below. has k (omega arith))

-- one signal more
pub table_more : (n : ℕ) (table new : List Bool) (test : ℕ → Bool) (b : Bool) → IsTable n table test
    → b ≡ test n → new ≡ table ++ b ∷ []
    → IsTable (n + 1) new test
table_more n table new test b (size, has) is gains = (
  ap length gains ∙ length_push table b ∙ ap (λ k. k + 1) size,
  λ s below. ap (λ t. get_or t s false) gains ∙ ⊎_elim
      (λ l. get_or_append_left table (b ∷ []) false s (subst (λ k. s < k) (sym size) l) ∙ has s l)
      (λ e. get_or_push table b false s (size ∙ e) ∙ is ∙ ap test e)
      (below_or_at s n below),
)

pub and_left : (a b : Bool) → IsTrue a → b ≡ (a && b)
and_left true b h = refl
and_left false b h = absurd (false≢true h)

-- there are fewer signals than 32 bits can number
pub few_signals : (design : FlatDesign) → IsTrue (sound design) → length design.signals < 4294967295
few_signals design h =
    ltb-true (length design.signals) 4294967295 (few_are design h)
