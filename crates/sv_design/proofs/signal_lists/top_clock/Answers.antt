use Rattle.std.proofs.Common.{◌≡◌, ◌<◌, ◌&&◌, ℕ, Bool, false, List, length}
use Rattle.std.proofs.Common.{get_or, Option, Some, None, refl, sym, ap, ap₂, subst, ◌∙◌}
use Rattle.std.proofs.Common.{rules, tests}
use Rattle.std.proofs.Math.ListN.{length-map}
use Rattle.std.proofs.lemmas.List.{get_or_default}
use Rattle.std.specs.Prelude.{find}
use Rattle.sv_flat.specs.Clocks.{is_clock}
use Rattle.sv_flat.specs.Design.{SignalForm}
use Rattle.sv_flat.specs.Processes.{is_top_kind, is_top_input}
use Rattle.sv_flat.specs.SignalLists.{top_clock}
use Rattle.sv_flat.specs.Views.{design_of, signal_form}
use Rattle.sv_flat.specs.declared.designs.Flat.{Flat}
use Rattle.sv_flat.specs.declared.signals.Signal.{Signal}
use Rattle.sv_flat.proofs.Depths.{first_of, second_of}
use Rattle.sv_rules.specs.DriverTables.{AreClocks}
use Rattle.sv_rules.proofs.ClockLinks.{at_table, clocks_count}
use Rattle.sv_design.proofs.ClockOrder.{NoneBelow, clocks_in_order, first_of_both, none_of_both}
use Rattle.sv_rules.proofs.DriverFacts.{signal_at}
use Rattle.sv_rules.proofs.FirstPlaces.{IsFirstPlace, position_finds}
use Rattle.sv_design.proofs.signal_lists.top_clock.Goals as goal

-- a signal beside whether it is a clock
abbrev is_top_clock : Signal × Bool → Bool
is_top_clock p = p.1 && is_top_kind p.0.kind

module _ (flat : Flat) (clocks : List Bool) (are : AreClocks (design_of flat) clocks) where
  abbrev is_first_at : ℕ → Bool
  is_first_at k = is_clock (design_of flat) k && is_top_input (design_of flat) k

  table_size : length clocks ≡ length flat.signals.items
  table_size = clocks_count (design_of flat) clocks are ∙ length-map flat.signals.items signal_form

  at_place : (k : ℕ) (d : Signal × Bool) → k < length flat.signals.items
      → is_top_clock (get_or flat.signals.items k d.0, get_or clocks k d.1) ≡ is_first_at k
  at_place k d inside =
      let design = design_of flat in
      let signals = flat.signals.items in
      let here : k < length design.signals = rw length-map inside in
      let has : k < length clocks = subst (λ n. k < n) (sym table_size) inside in
      let signal = get_or signals k d.0 in
      let form = signal_at flat signals k signal refl inside
      (get_or_default signals k d.0 signal inside) in
      ap₂ (λ c t. c && t)
      (get_or_default clocks k d.1 false has ∙ at_table design clocks are k here)
      (ap (λ (s : SignalForm). is_top_kind s.kind) (sym form))

  is_first : (o : Option ℕ) → IsFirstPlace is_first_at (length flat.signals.items) o →
      o ≡ top_clock (design_of flat)
  is_first None none =
      let design = design_of flat in
      let all : NoneBelow (is_clock design) (is_top_input design) (length design.signals) =
      subst (NoneBelow (is_clock design) (is_top_input design))
      (sym (length-map flat.signals.items signal_form)) none in
      sym (ap (find (is_top_input design)) (clocks_in_order design)
      ∙ none_of_both (is_clock design) (is_top_input design) (length design.signals) all)
  is_first (Some i) first =
      let design = design_of flat in
      let here : i < length design.signals = rw length-map first.0 in
      sym (ap (find (is_top_input design)) (clocks_in_order design)
      ∙ first_of_both (is_clock design) (is_top_input design) (length design.signals) i here
      first.2
      (first_of (is_clock design i) (is_top_input design i) first.1)
      (second_of (is_clock design i) (is_top_input design i) first.1))

pub returns-in-Some : goal.returns-in-Some
returns-in-Some c =
    let flat = c.args.flat.now in
    let clocks = c.args.clocks.now in
    let are = c.requires.clocks in
    sym c.in-Some.is
    ∙ is_first flat clocks are c.position-found.result
    (position_finds flat.signals.items clocks (table_size flat clocks are) is_top_clock
    (is_first_at flat clocks are) (at_place flat clocks are) c.position-found.new.self _
    c.position-found.result c.position-found.ensures.ran (cc) (cc)
    (λ x q k. search (rules, tests)) (λ x q k. search (rules, tests)))

pub returns-in-None : goal.returns-in-None
returns-in-None c =
    let flat = c.args.flat.now in
    let clocks = c.args.clocks.now in
    let are = c.requires.clocks in
    sym c.in-None.is
    ∙ is_first flat clocks are c.position-found.result
    (position_finds flat.signals.items clocks (table_size flat clocks are) is_top_clock
    (is_first_at flat clocks are) (at_place flat clocks are) c.position-found.new.self _
    c.position-found.result c.position-found.ensures.ran (cc) (cc)
    (λ x q k. search (rules, tests)) (λ x q k. search (rules, tests)))
