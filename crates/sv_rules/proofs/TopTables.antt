-- Tables of the inputs of the top module that signals lead up to.
use Rattle.std.proofs.Common.{◌≡◌, ℕ, ◌+◌, ◌<◌, Bool, true, false, not, ◌&&◌, ◌||◌, nat_le}
use Rattle.std.proofs.Common.{List, [], ◌∷◌, length, get_or, Option, Some, None, refl}
use Rattle.std.proofs.Common.{sym, ap, ap₂, subst, ◌∙◌, arith}
use Rattle.std.specs.Prelude.{IsTrue, IsFalse, filter}
use Rattle.std.specs.List.{list_any, range_with_len}
use Rattle.std.proofs.lemmas.Bool.{false≢true, le-leb}
use Rattle.sv_flat.specs.Clocks.{is_clock, origins, agrees_with_earlier}
use Rattle.sv_flat.specs.Design.{FlatDesign}
use Rattle.sv_flat.specs.Processes.{is_top_input}
use Rattle.sv_flat.specs.Sets.{holds, least_set}
use Rattle.sv_flat.proofs.AdmittedFacts.{and_true}
use Rattle.sv_flat.proofs.Depths.{first_of, second_of}
use Rattle.sv_flat.proofs.LeastSets.{some_from, from_some, holds-from_Contains}
use Rattle.sv_flat.proofs.LeastSets.{Contains-from_holds}
use Rattle.sv_graph.specs.declared.graphs.Graph.{Graph}
use Rattle.sv_rules.specs.DriverTables.{AreClocks}
use Rattle.sv_graph.specs.Graphs.{size, has_edge, IsWhole, IsTurned}
use Rattle.sv_graph.specs.Marks.{is_marked, IsTable}
use Rattle.sv_graph.specs.Searches.{Brings}
use Rattle.sv_rules.specs.Tops.{AreOrigins, AreSinks, leads_to, is_led, is_one, is_other_top}
use Rattle.sv_rules.specs.Tops.{IsFirstLed, IsLeadingTop, both_have, IsFirstOfBoth}
use Rattle.sv_rules.specs.Tops.{FindsFirstOfBoth, some_before, agrees_by}
use Rattle.sv_graph.proofs.BitFacts.{same_answer}
use Rattle.sv_rules.proofs.ClockLinks.{at_table, clocks_count}
use Rattle.sv_graph.proofs.ListFacts.{range_more}
use Rattle.sv_graph.proofs.GraphFacts.{turned_below, turned_has}
use Rattle.sv_graph.proofs.MarkFacts.{any_append, or_no}
use Rattle.sv_rules.proofs.TableFacts.{listed_are}
use Rattle.sv_rules.proofs.TopFacts.{origin_below, led_is, clock_below, agrees_is, in_range}

-- ---- edges

and_yes : (a b : Bool) → IsTrue b → a ≡ (a && b)
and_yes true true h = refl
and_yes true false h = absurd (false≢true h)
and_yes false b h = refl

pub all_brought : (graph : Graph) (brings : ℕ → ℕ → Bool)
    → ((a b : ℕ) → brings a b ≡ has_edge graph a b) → Brings graph 0 brings
all_brought graph brings same a b =
    same a b ∙ and_yes (has_edge graph a b) (nat_le 0 b) (le-leb 0 b (omega arith))

-- ---- links downwards

module _ (design : FlatDesign) (origins sinks : Graph) (are : AreOrigins design origins)
    (same : size sinks ≡ size origins) (turned : IsTurned origins sinks) where
  pub sinks_are : AreSinks design sinks
  sinks_are = record {
    over = same ∙ are.over;
    edges = λ a b below.
        turned_has (has_edge origins) sinks (size origins) turned b a
        (subst (λ n. b < n) (sym are.over) below)
        ∙ are.edges b a;
  }

  pub sinks_whole : IsWhole sinks
  sinks_whole a b h =
      subst (λ n. b < n) (sym same) (turned_below (has_edge origins) sinks (size origins)
      turned a b h)

-- the signals that lead up to some, as a table
pub led_are : (design : FlatDesign) (test : ℕ → Bool) (sinks : Graph) (tops led : List Bool)
    (starts : List ℕ) → AreSinks design sinks → IsTable (length design.signals) tops test
    → starts ≡ filter (λ s. get_or tops s false) (range_with_len 0 (length tops))
    → IsTable (size sinks) led (holds (least_set (size sinks) (has_edge sinks) starts))
    → IsTable (length design.signals) led (leads_to design test)
led_are design test sinks tops led starts are table listed found =
    let n = length design.signals in
    let here = subst (λ m. IsTable m led (holds (least_set m (has_edge sinks) starts))) are.over
    found in (
      here.0,
      λ s below. here.1 s below
          ∙ led_is design (has_edge sinks) test starts are.edges
          (listed ∙ listed_are n tops test n table refl) s below,
    )

-- ---- the first clock that leads up to an input

module _ (design : FlatDesign) (clocks led tops : List Bool) (are : AreClocks design clocks)
    (leads : IsTable (length design.signals) led (is_led design))
    (top_are : IsTable (length design.signals) tops (is_top_input design)) where
  abbrev n : ℕ
  n = length design.signals

  marked_led : (s : ℕ) → s < n → both_have clocks led s ≡ (is_clock design s && is_led design s)
  marked_led s below = ap₂ ◌&&◌ (at_table design clocks are s below) (leads.1 s below)

  second_false : (a b : Bool) → IsFalse (a && b) → IsTrue a → IsFalse b
  second_false true b h t = h
  second_false false b h t = absurd (false≢true t)

  pub none_leads : FindsFirstOfBoth clocks led None → IsLeadingTop design None
  none_leads none s clock =
      let below = clock_below design s clock in
      second_false (is_clock design s) (is_led design s)
      (sym (marked_led s below)
      ∙ none s (subst (λ m. s < m) (sym (clocks_count design clocks are)) below)) clock

  module _ (c : ℕ) (first : IsFirstOfBoth clocks led c) where
    below_all : c < n
    below_all = subst (λ m. c < m) (clocks_count design clocks are) first.within

    first_led : IsFirstLed design c
    first_led =
        let has = sym (marked_led c below_all) ∙ first.has in
        record {
          among = first_of (is_clock design c) (is_led design c) has;
          leads = second_of (is_clock design c) (is_led design c) has;
          before =
              λ s earlier clock. second_false (is_clock design s) (is_led design s)
              (sym (marked_led s (clock_below design s clock)) ∙ first.before s earlier) clock;
        }

    module _ (above : List Bool) (reached : IsTable n above (holds (origins design c))) where
      marked_above : (s : ℕ) → s < n →
          both_have above tops s ≡ (holds (origins design c) s && is_top_input design s)
      marked_above s below = ap₂ ◌&&◌ (reached.1 s below) (top_are.1 s below)

      pub some_leads : (top : Option ℕ) → FindsFirstOfBoth above tops top → IsLeadingTop design top
      some_leads None none =
          let found = from_some (is_top_input design) (origins design c) first_led.leads in
          let t = found.0 in
          let below = origin_below design c t below_all found.1 in
          absurd (false≢true
          (sym (none t (subst (λ m. t < m) (sym reached.0) below)) ∙ marked_above t below
          ∙ and_true (holds (origins design c) t) (is_top_input design t)
          (holds-from_Contains (origins design c) t found.1) found.2))
      some_leads (Some x) found =
          let below = subst (λ m. x < m) reached.0 found.within in
          let has = sym (marked_above x below) ∙ found.has in
          let inside = holds (origins design c) x in (
            second_of inside (is_top_input design x) has,
            (
              c,
              first_led,
              Contains-from_holds (origins design c) x
                  (first_of inside (is_top_input design x) has),
            ),
          )

pub top_below : (design : FlatDesign) (x : ℕ) → IsLeadingTop design (Some x) →
    x < length design.signals
top_below design x (top, (c, first, at)) =
    origin_below design c x (clock_below design c first.among) at

-- ---- the other inputs

pub others_are : (design : FlatDesign) (left_out : Option ℕ) (old new : List Bool)
    → IsTable (length design.signals) old (is_top_input design) → length new ≡ length old
    → ((s : ℕ) → is_marked new s ≡ (is_marked old s && not (is_one left_out s)))
    → IsTable (length design.signals) new (is_other_top design left_out)
others_are design left_out old new are size marks = (
  size ∙ are.0,
  λ s below. marks s ∙ ap (λ t. t && not (is_one left_out s)) (are.1 s below),
)

-- ---- clocks that agree

pub some_more : (test : ℕ → Bool) (s : ℕ) →
    some_before test (s + 1) ≡ (some_before test s || test s)
some_more test s =
    ap (list_any test) (range_more s) ∙ any_append test (range_with_len 0 s) (s ∷ [])
    ∙ ap (λ t. some_before test s || t) (or_no (test s) false refl)

some_same : (p q : ℕ → Bool) (s : ℕ) → ((k : ℕ) → k < s → p k ≡ q k) →
    some_before p s ≡ some_before q s
some_same p q s same = same_answer (some_before p s) (some_before q s)
    (λ h.
    let found = from_some p (range_with_len 0 s) h in
    some_from q (range_with_len 0 s) found.0 found.1
    (sym (same found.0 (in_range s found.0 found.1)) ∙ found.2))
    (λ h.
    let found = from_some q (range_with_len 0 s) h in
    some_from p (range_with_len 0 s) found.0 found.1
    (same found.0 (in_range s found.0 found.1) ∙ found.2))

pub agree_end : (design : FlatDesign) (left_out : Option ℕ) (clocks led astray agree : List Bool)
    → AreClocks design clocks → IsTable (length design.signals) led (is_led design)
    → IsTable (length design.signals) astray (leads_to design (is_other_top design left_out))
    → IsLeadingTop design left_out
    → IsTable (length clocks) agree (agrees_by clocks led astray)
    → IsTable (length design.signals) agree (agrees_with_earlier design)
agree_end design left_out clocks led astray agree are leads strays leading table =
    let n = length design.signals in
    let size = clocks_count design clocks are in
    let other = leads_to design (is_other_top design left_out) in
    let marked : (test : ℕ → Bool) (these : List Bool) → IsTable n these test → (s : ℕ) → s < n →
    some_before (both_have clocks these) s ≡ some_before (λ c. is_clock design c && test c) s =
    λ test these is s below.
    some_same (both_have clocks these) (λ c. is_clock design c && test c) s
    (λ k lower.
    let inside : k < n = omega arith in
    ap₂ ◌&&◌ (at_table design clocks are k inside) (is.1 k inside)) in (
      table.0 ∙ size,
      λ s below. table.1 s (subst (λ m. s < m) (sym size) below)
          ∙ ap not (ap₂ ◌&&◌ (ap₂ ◌&&◌ (leads.1 s below) (marked (is_led design) led leads s below))
          (ap₂ ◌||◌ (strays.1 s below) (marked other astray strays s below)))
          ∙ sym (agrees_is design left_out s leading),
    )
