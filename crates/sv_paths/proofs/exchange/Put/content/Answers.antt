use Rattle.std.proofs.Common.{◌≡◌, ◌-◌, ◌<◌, ◌≤◌, length, sym, ap, ◌∙◌, arith}
use Rattle.sv_flat.specs.ByNumber.{signal_forms}
use Rattle.sv_flat.specs.Views.{typed_tree}
use Rattle.sv_obl.specs.Exchange.{name, content}
use Rattle.sv_paths.specs.PutIn.{value_put}
use Rattle.sv_paths.proofs.ExchangeFacts.{stays_settled, stays_wanted, is_put}
use Rattle.sv_paths.proofs.exchange.Put.content.Goals as goal

pub returns-then-name-count : goal.returns-then-name-count
returns-then-name-count c = λ r same at.
    let below : r.signal < length c.args.signals.now = omega arith in
    ap name (sym same) ∙ stays_settled c.args.signals.now r c.args.self below

pub returns-then-not-has : goal.returns-then-not-has
returns-then-not-has c = λ r same at.
    let n = length c.args.signals.now in
    let is : c.args.name.0 - n ≡ r.signal - n = omega arith in
    ap name (sym same)
    ∙ stays_wanted c.args.signals.now r c.args.self (c.args.name.0 - n) is
    (sym c.has.ensures ∙ c.if-not-has.true)

pub returns : goal.returns
returns c = λ r same at.
    let n = length c.args.signals.now in
    let s = c.args.name.0 - n in
    let is : s ≡ r.signal - n = omega arith in
    let above : n ≤ r.signal = omega arith in
    let tree : typed_tree c.in_ok-new.field-0.value
    ≡ value_put (signal_forms c.args.signals.now) c.args.self s r.place =
    ap typed_tree c.in_ok-new.ensures.ok ∙ c.in_ok-value.ensures
    ∙ ap (value_put (signal_forms c.args.signals.now) c.args.self s) (sym at) in
    ap (content s) tree
    ∙ is_put c.args.signals.now r c.args.self s is above (sym c.has.ensures ∙ c.if-not-has.false)
