use Rattle.std.proofs.Common.{refl, sym, ap, ap₂, ◌∙◌}
use Rattle.sv_flat.specs.ByNumber.{signal_forms}
use Rattle.sv_flat.specs.Design.{join, replication}
use Rattle.sv_flat.specs.Readings.{whole_read, indexed_read}
use Rattle.sv_flat.specs.Views.{typed_tree, node_tree}
use Rattle.sv_obl.specs.Exchange.{for_whole, for_bit, for_part, exchanged_node}
use Rattle.sv_paths.specs.PutIn.{put_for}
use Rattle.sv_obl.specs.Wanted.{with_copies}
use Rattle.sv_paths.proofs.ExchangeFacts.{indexed_name}
use Rattle.sv_obl.proofs.MarkingFacts.{row_exchanged}
use Rattle.sv_paths.proofs.exchange.+exchanged.Goals as goal

pub exchanged_node-returns-in_ok-exchanged_parts-in-Join : goal.exchanged_node-returns-in_ok-exchanged_parts-in-Join
exchanged_node-returns-in_ok-exchanged_parts-in-Join t c =
    let both = with_copies (signal_forms c.args.signals.now) in
    let instead = put_for (signal_forms c.args.signals.now) c.args.put in
    ap join (row_exchanged both instead c.in_ok-exchanged_parts-in-Join.field-0 c.in-Join.parts
    c.in-Join.parts.items refl c.in_ok-exchanged_parts-in-Join.ensures)
    ∙ ap (exchanged_node both instead) (ap node_tree (sym c.in-Join.is))

pub exchanged_node-returns-in_ok-exchanged_parts-in-Repeat : goal.exchanged_node-returns-in_ok-exchanged_parts-in-Repeat
exchanged_node-returns-in_ok-exchanged_parts-in-Repeat t c =
    let both = with_copies (signal_forms c.args.signals.now) in
    let instead = put_for (signal_forms c.args.signals.now) c.args.put in
    ap (replication c.in-Repeat.count)
    (row_exchanged both instead c.in_ok-exchanged_parts-in-Repeat.field-0 c.in-Repeat.parts
    c.in-Repeat.parts.items refl c.in_ok-exchanged_parts-in-Repeat.ensures)
    ∙ ap (exchanged_node both instead) (ap node_tree (sym c.in-Repeat.is))

pub exchanged_node-returns-in_ok-found-in-Signal : goal.exchanged_node-returns-in_ok-found-in-Signal
exchanged_node-returns-in_ok-found-in-Signal t c =
    let both = with_copies (signal_forms c.args.signals.now) in
    let instead = put_for (signal_forms c.args.signals.now) c.args.put in
    let place = c.in-Signal.place in
    c.for_whole.ensures
    ∙ ap (λ i. for_whole i place)
    (c.in_ok-found-in-Signal.ensures (whole_read both c.in-Signal.name.0 place) refl refl)
    ∙ ap (exchanged_node both instead) (ap node_tree (sym c.in-Signal.is))

pub exchanged_node-returns-in_ok-found-in-Bit : goal.exchanged_node-returns-in_ok-found-in-Bit
exchanged_node-returns-in_ok-found-in-Bit t c =
    let both = with_copies (signal_forms c.args.signals.now) in
    let instead = put_for (signal_forms c.args.signals.now) c.args.put in
    let place = c.in-Bit.place in
    let index = typed_tree c.in-Bit.index.value in
    let named = indexed_name both c.in-Bit.name.0 place index in
    c.for_bit.ensures
    ∙ ap₂ (λ i e. for_bit i place e)
    (c.in_ok-found-in-Bit.ensures (indexed_read both c.in-Bit.name.0 place index) named.0 named.1)
    c.in_ok-index-in-Bit.ensures
    ∙ ap (exchanged_node both instead) (ap node_tree (sym c.in-Bit.is))

pub exchanged_node-returns-in_ok-found-in-Part : goal.exchanged_node-returns-in_ok-found-in-Part
exchanged_node-returns-in_ok-found-in-Part t c =
    let both = with_copies (signal_forms c.args.signals.now) in
    let instead = put_for (signal_forms c.args.signals.now) c.args.put in
    let place = c.in-Part.place in
    c.for_part.ensures
    ∙ ap (λ i. for_part i place c.in-Part.high c.in-Part.low)
    (c.in_ok-found-in-Part.ensures (record {
      signal = c.in-Part.name.0;
      place = place;
      high = c.in-Part.high;
      low = c.in-Part.low;
    }) refl refl)
    ∙ ap (exchanged_node both instead) (ap node_tree (sym c.in-Part.is))
