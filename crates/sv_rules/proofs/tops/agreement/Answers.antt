use Rattle.std.proofs.Common.{not, ◌&&◌, ◌||◌, false, get_or, sym, ap, ap₂, ◌∙◌}
use Rattle.sv_rules.specs.Tops.{both_have, agrees_by}
use Rattle.sv_rules.proofs.TableFacts.{table_more}
use Rattle.sv_rules.proofs.TopTables.{some_more}
use Rattle.sv_rules.proofs.tops.agreement.Goals as goal

pub loop-s-preserved : goal.loop-s-preserved
loop-s-preserved c =
    let clocks = c.args.clocks.now in
    let led = c.args.led.now in
    let astray = c.args.astray.now in
    let s = c.loop-s.s in
    let so_far = c.loop-s.invariant in (
      table_more s c.loop-s.agree.items c.push.new.self.items (agrees_by clocks led astray)
          c.agrees.result so_far.0
          (c.agrees.ensures
          ∙ ap₂ (λ l a. not (get_or led s false && l && (get_or astray s false || a))) so_far.1
          so_far.2)
          c.in_ok-push.ensures.items,
      c.or_both-some_led.ensures
          ∙ ap (λ b. b || (get_or clocks s false && get_or led s false)) so_far.1
          ∙ sym (some_more (both_have clocks led) s),
      c.or_both-some_astray.ensures
          ∙ ap (λ b. b || (get_or clocks s false && get_or astray s false)) so_far.2
          ∙ sym (some_more (both_have clocks astray) s),
    )
