use Rattle.std.proofs.Common.{◌≡◌, ℕ, ◌<◌, List, Bool, ◌&&◌, not, Option, Some, None}
use Rattle.std.proofs.Common.{◌++◌, length, take, drop}
use Rattle.std.proofs.Common.{sym, ap, subst, ◌∙◌, arith}
use Rattle.std.specs.Prelude.{MatchOption}
use Rattle.std.proofs.Math.ListN.{length-map}
use Rattle.sv_flat.specs.declared.designs.Flat.{Flat}
use Rattle.sv_flat.specs.declared.signals.SigId.{SigId}
use Rattle.sv_flat.specs.Clocks.{links_in, lists_pair, agrees_with_earlier}
use Rattle.sv_flat.specs.Design.{FlatDesign}
use Rattle.sv_flat.specs.Processes.{is_top_input}
use Rattle.sv_flat.specs.Views.{design_of, signal_form}
use Rattle.sv_graph.specs.declared.graphs.Graph.{Graph}
use Rattle.sv_graph.specs.Graphs.{size, has_edge, IsWhole, IsTurned}
use Rattle.sv_graph.specs.Marks.{is_marked, IsTable}
use Rattle.sv_graph.specs.Numbers.{number_if_any}
use Rattle.sv_rules.specs.Tops.{AreOrigins, AreSinks, leads_to, is_led, is_one, is_other_top}
use Rattle.sv_rules.specs.Tops.{IsLeadingTop}
use Rattle.sv_rules.proofs.ClockLinks.{clocks_count}
use Rattle.sv_rules.proofs.TableFacts.{written_back}
use Rattle.sv_rules.proofs.TopTables.{sinks_are, sinks_whole, top_below, others_are, agree_end}
use Rattle.sv_rules.proofs.tops.agreeing.Goals as goal

-- ---- the graphs

count : (flat : Flat) → length (design_of flat).signals ≡ length flat.signals.items
count flat = length-map flat.signals.items signal_form

origins_are : (flat : Flat) (origins : Graph) → size origins ≡ length flat.signals.items
    → ((a b : ℕ) → has_edge origins a b ≡ lists_pair (links_in (design_of flat)) a b)
    → IsWhole origins → AreOrigins (design_of flat) origins
origins_are flat origins over edges whole =
    record { over = over ∙ sym (count flat); edges = edges; whole = whole }

-- ---- the tables

-- a slice of a table
sliced : (flat : Flat) (slice items : List Bool) (test : ℕ → Bool) → slice ≡ items
    → IsTable (length flat.signals.items) items test
    → IsTable (length (design_of flat).signals) slice test
sliced flat slice items test same table =
    subst (λ n. IsTable n slice test) (sym (count flat))
    (subst (λ (ts : List Bool).
    IsTable (length flat.signals.items) ts test) (sym same) table)

sliced_again : (n : ℕ) (slice items : List Bool) (test : ℕ → Bool) → slice ≡ items
    → IsTable n items test → IsTable n slice test
sliced_again n slice items test same table =
    subst (λ (ts : List Bool). IsTable n ts test) (sym same) table

-- what leads up to inputs of the top module, and to others of them than one
module _ (flat : Flat) (origins sinks : Graph) (are : AreOrigins (design_of flat) origins)
    (same_size : size sinks ≡ size origins) (turned : IsTurned origins sinks) where
  abbrev design : FlatDesign
  design = design_of flat

  -- a table of what leads up to those of another table
  abbrev Leads : (tops led : List Bool) → Type 0
  Leads tops led = (design : FlatDesign) (test : ℕ → Bool) → AreSinks design sinks
      → IsTable (length design.signals) tops test
      → IsTable (length design.signals) led (leads_to design test)

  led_to_top : (slice items led : List Bool) → slice ≡ items
      → IsTable (length flat.signals.items) items (is_top_input design) → Leads slice led
      → IsTable (length design.signals) led (is_led design)
  led_to_top slice items led same tops leads =
      leads design (is_top_input design) (sinks_are design origins sinks are same_size turned)
      (sliced flat slice items (is_top_input design) same tops)

  led_to_other : (top : Option ℕ) (n : ℕ) (items slice new again astray : List Bool)
      → length items ≡ n → slice ≡ items → length new ≡ length slice
      → ((s : ℕ) → is_marked new s ≡ (is_marked slice s && not (is_one top s)))
      → again ≡ take n (new ++ drop (length new) items)
      → IsTable (length flat.signals.items) items (is_top_input design) → Leads again astray
      → IsTable (length design.signals) astray (leads_to design (is_other_top design top))
  led_to_other top n items slice new again astray count same kept left_out written tops leads =
      leads design (is_other_top design top)
      (sinks_are design origins sinks are same_size turned)
      (sliced_again (length design.signals) again new (is_other_top design top)
      (written ∙ written_back new items n (kept ∙ ap length same) count)
      (others_are design top slice new (sliced flat slice items (is_top_input design) same tops)
      kept left_out))

below_of : (design : FlatDesign) (top : Option SigId) (n : ℕ) → n ≡ length design.signals
    → IsLeadingTop design (number_if_any top) → MatchOption top (Unit {0}) (λ s. s.0 < n)
below_of design None n same leading = tt
below_of design (Some s) n same leading =
    subst (λ m. s.0 < m) (sym same) (top_below design s.0 leading)

pub led_table-requires-clause-whole : goal.led_table-requires-clause-whole
led_table-requires-clause-whole c =
    let flat = c.args.flat.now in
    let origins = c.in_ok-origins.origins in
    let graph = c.in_ok-origins.ensures in
    sinks_whole (design_of flat) origins c.in_ok-sinks.sinks
    (origins_are flat origins graph.size graph.edges graph.whole) c.in_ok-sinks.ensures.size
    c.in_ok-sinks.ensures.turned

pub leading_top-requires-clause-clocks : goal.leading_top-requires-clause-clocks
leading_top-requires-clause-clocks c =
    let flat = c.args.flat.now in
    clocks_count (design_of flat) c.args.clocks.now c.requires.clocks ∙ count flat
    ∙ sym c.in_ok-origins.ensures.size

pub leading_top-requires-clause-led : goal.leading_top-requires-clause-led
leading_top-requires-clause-led c =
    let flat = c.args.flat.now in
    let design = design_of flat in
    let origins = c.in_ok-origins.origins in
    let graph = c.in_ok-origins.ensures in
    let are = origins_are flat origins graph.size graph.edges graph.whole in
    let led = led_to_top flat origins c.in_ok-sinks.sinks are c.in_ok-sinks.ensures.size
    c.in_ok-sinks.ensures.turned c.deref.result.now c.in_ok-tops.tops.items
    c.in_ok-led.led.items c.deref.ensures.value c.in_ok-tops.ensures c.in_ok-led.ensures in
    ap length c.deref-2.ensures.value ∙ led.0 ∙ count flat ∙ sym graph.size

pub leave_out-requires : goal.leave_out-requires
leave_out-requires c =
    let flat = c.args.flat.now in
    let design = design_of flat in
    let origins = c.in_ok-origins.origins in
    let graph = c.in_ok-origins.ensures in
    let are = origins_are flat origins graph.size graph.edges graph.whole in
    let led = led_to_top flat origins c.in_ok-sinks.sinks are c.in_ok-sinks.ensures.size
    c.in_ok-sinks.ensures.turned c.deref.result.now c.in_ok-tops.tops.items
    c.in_ok-led.led.items c.deref.ensures.value c.in_ok-tops.ensures c.in_ok-led.ensures in
    let leading = c.in_ok-top.ensures design are c.requires.clocks
    (sliced_again (length design.signals) c.deref-2.result.now c.in_ok-led.led.items
    (is_led design) c.deref-2.ensures.value led)
    (sliced flat c.deref-3.result.now c.in_ok-tops.tops.items (is_top_input design)
    c.deref-3.ensures.value c.in_ok-tops.ensures) in
    below_of design c.in_ok-top.top (length c.deref_mut.result.now)
    (ap length c.deref_mut.ensures.value ∙ c.in_ok-tops.ensures.0 ∙ sym (count flat)) leading

pub led_table-requires-2-clause-whole : goal.led_table-requires-2-clause-whole
led_table-requires-2-clause-whole c =
    let flat = c.args.flat.now in
    let origins = c.in_ok-origins.origins in
    let graph = c.in_ok-origins.ensures in
    sinks_whole (design_of flat) origins c.in_ok-sinks.sinks
    (origins_are flat origins graph.size graph.edges graph.whole) c.in_ok-sinks.ensures.size
    c.in_ok-sinks.ensures.turned

pub agreement-requires-clause-led : goal.agreement-requires-clause-led
agreement-requires-clause-led c =
    let flat = c.args.flat.now in
    let design = design_of flat in
    let origins = c.in_ok-origins.origins in
    let graph = c.in_ok-origins.ensures in
    let are = origins_are flat origins graph.size graph.edges graph.whole in
    let led = led_to_top flat origins c.in_ok-sinks.sinks are c.in_ok-sinks.ensures.size
    c.in_ok-sinks.ensures.turned c.deref.result.now c.in_ok-tops.tops.items
    c.in_ok-led.led.items c.deref.ensures.value c.in_ok-tops.ensures c.in_ok-led.ensures in
    ap length c.deref-5.ensures.value ∙ led.0
    ∙ sym (clocks_count (design_of flat) c.args.clocks.now c.requires.clocks)

pub agreement-requires-clause-astray : goal.agreement-requires-clause-astray
agreement-requires-clause-astray c =
    let flat = c.args.flat.now in
    let design = design_of flat in
    let origins = c.in_ok-origins.origins in
    let graph = c.in_ok-origins.ensures in
    let are = origins_are flat origins graph.size graph.edges graph.whole in
    let top = number_if_any c.in_ok-top.top in
    let astray = led_to_other flat origins c.in_ok-sinks.sinks are c.in_ok-sinks.ensures.size
    c.in_ok-sinks.ensures.turned top c.in_ok-tops.tops.len c.in_ok-tops.tops.items
    c.deref_mut.result.now c.leave_out.new.table c.deref-4.result.now c.in_ok-astray.astray.items
    (omega (arith, c.in_ok-tops.tops.ok.0)) c.deref_mut.ensures.value c.leave_out.auto.table
    c.leave_out.ensures c.deref-4.ensures.value c.in_ok-tops.ensures c.in_ok-astray.ensures in
    ap length c.deref-6.ensures.value ∙ astray.0
    ∙ sym (clocks_count (design_of flat) c.args.clocks.now c.requires.clocks)

pub returns : goal.returns
returns c =
    let flat = c.args.flat.now in
    let design = design_of flat in
    let n = length design.signals in
    let origins = c.in_ok-origins.origins in
    let graph = c.in_ok-origins.ensures in
    let are = origins_are flat origins graph.size graph.edges graph.whole in
    let led = led_to_top flat origins c.in_ok-sinks.sinks are c.in_ok-sinks.ensures.size
    c.in_ok-sinks.ensures.turned c.deref.result.now c.in_ok-tops.tops.items
    c.in_ok-led.led.items c.deref.ensures.value c.in_ok-tops.ensures c.in_ok-led.ensures in
    let leading = c.in_ok-top.ensures design are c.requires.clocks
    (sliced_again n c.deref-2.result.now c.in_ok-led.led.items (is_led design)
    c.deref-2.ensures.value led)
    (sliced flat c.deref-3.result.now c.in_ok-tops.tops.items (is_top_input design)
    c.deref-3.ensures.value c.in_ok-tops.ensures) in
    let top = number_if_any c.in_ok-top.top in
    let astray = led_to_other flat origins c.in_ok-sinks.sinks are c.in_ok-sinks.ensures.size
    c.in_ok-sinks.ensures.turned top c.in_ok-tops.tops.len c.in_ok-tops.tops.items
    c.deref_mut.result.now c.leave_out.new.table c.deref-4.result.now c.in_ok-astray.astray.items
    (omega (arith, c.in_ok-tops.tops.ok.0)) c.deref_mut.ensures.value c.leave_out.auto.table
    c.leave_out.ensures c.deref-4.ensures.value c.in_ok-tops.ensures c.in_ok-astray.ensures in
    let agree = c.in_ok-agree.agree.items in
    subst (λ m. IsTable m agree (agrees_with_earlier design)) (count flat)
    (agree_end design top c.args.clocks.now c.deref-5.result.now c.deref-6.result.now agree
    c.requires.clocks
    (sliced_again n c.deref-5.result.now c.in_ok-led.led.items (is_led design)
    c.deref-5.ensures.value led)
    (sliced_again n c.deref-6.result.now c.in_ok-astray.astray.items
    (leads_to design (is_other_top design top)) c.deref-6.ensures.value astray)
    leading c.in_ok-agree.ensures)
