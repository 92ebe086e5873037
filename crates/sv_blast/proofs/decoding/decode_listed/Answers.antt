use Rattle.std.proofs.Common.{◌+◌, ◌<◌, false, length, map, take, get_or}
use Rattle.std.proofs.Common.{arith, ap, ◌∙◌, sym}
use Rattle.std.proofs.lemmas.Grind.{same_number_lists}
use Rattle.std.proofs.lemmas.List.{length-map, get_or-map, take_all}
use Rattle.sv_flat.specs.declared.signals.SigId.{SigId}
use Rattle.sv_design.specs.Numbers.{numbers}
use Rattle.sv_gates.specs.Formulas.{value_of}
use Rattle.sv_encoding.specs.BothWays.{AreOfOneBit}
use Rattle.sv_encoding.specs.Valuations.{placed_value}
use Rattle.sv_blast.specs.declared.coded.BitPlace.{BitPlace as Place}
use Rattle.sv_blast.specs.Coded.{place_form}
use Rattle.sv_blast.proofs.DecodedBits.{beq_is, pairs_take, place_more}
use Rattle.sv_blast.proofs.DecodedBits.{set_place, skip_frame, skip_value}
use Rattle.sv_blast.proofs.decoding.decode_listed.Goals as goal
use Rattle.sv_blast.proofs.decoding.decode_listed.Goals.{then-place-next+then-values-place, else-place-next, else-place-next-via-then-place-next+else-values-place, else-place-next-via-else-place-next}

abbrev none : Place
none = record { signal = record { 0 = 0 }; next = false; bit = 0; variable = 0 }

pub bits-preserved : goal.bits-preserved
bits-preserved c =
    let bits = c.args.bits.now in
    let i = c.bits.place-index in
    let places = map place_form bits in
    let place = place_form (get_or bits i none) in
    let values = value_of c.args.values.now in
    let next = c.args.next in
    let more = place_more place_form bits i none c.bits-test.true in
    let apart = pairs_take (λ a b. ¬ AreOfOneBit a b) i places c.requires.apart in
    let more_apart = pairs_take (λ a b. ¬ AreOfOneBit a b) (i + 1) places c.requires.apart in
    elim c.if-place-next.branch [
      | then-place-next+then-values-place w ↦ λ k known.
          set_place values next (get_or (numbers c.args.listed.now) k 0) (take i places)
          (take (i + 1) places) place (get_or c.bits.into k 0) (get_or c.if-place-next.into k 0) more
          apart more_apart (c.bits.invariant k known)
          (beq_is place.next next w.if-place-next.true) w.if-values-place.true
          (ap (λ z. get_or z k 0) w.into-is ∙ w.set_bit.ensures.each k known)
      | else-place-next w ↦ elim w.else-place-next.branch [
        | else-place-next-via-then-place-next+else-values-place u ↦ λ k known.
            ap (λ z. get_or z k 0) w.into-is
            ∙ skip_value values next (get_or (numbers c.args.listed.now) k 0) (take i places)
            (take (i + 1) places) place (get_or c.bits.into k 0) more (c.bits.invariant k known)
            u.if-values-place.false
        | else-place-next-via-else-place-next u ↦ λ k known.
            ap (λ z. get_or z k 0) w.into-is
            ∙ skip_frame values next (get_or (numbers c.args.listed.now) k 0) (take i places)
            (take (i + 1) places) place (get_or c.bits.into k 0) more (c.bits.invariant k known)
            u.if-place-next.false
      ]
    ]

pub returns : goal.returns
returns c =
    let bits = c.args.bits.now in
    let places = map place_form bits in
    let values = value_of c.args.values.now in
    let next = c.args.next in
    let listed = numbers c.args.listed.now in
    let count = length-map c.args.listed.now (λ (t : SigId). t.0) in
    let many = length-map listed (placed_value values places next) in
    let all = take_all c.bits.place-index places (omega (
      arith,
      length-map bits place_form,
      c.bits-test.false,
    )) in
    same_number_lists c.bits.into (map (placed_value values places next) listed)
    (omega (arith, count, many))
    (λ k inside.
    let known : k < length c.args.listed.now = omega (arith, inside) in
    c.bits.invariant k known
    ∙ ap (λ z. placed_value values z next (get_or listed k 0)) all
    ∙ sym (get_or-map (placed_value values places next) listed k 0 0
    (omega (arith, known, count))))
