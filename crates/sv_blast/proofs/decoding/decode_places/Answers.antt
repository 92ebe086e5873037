use Rattle.std.proofs.Common.{◌∙◌, true, false, length, map, sym, subst}
use Rattle.std.specs.Vec.{with_items}
use Rattle.std.proofs.lemmas.List.{with_items_is}
use Rattle.std.specs.List.Sorted.{IsStrictlyIncreasing}
use Rattle.sv_flat.specs.Views.{design_of}
use Rattle.sv_flat.specs.FlatSystem.{flat_system}
use Rattle.sv_flat.specs.SignalLists.{registers, inputs}
use Rattle.sv_design.specs.Numbers.{numbers}
use Rattle.sv_obl.specs.declared.valuations.Valuation.{Valuation}
use Rattle.sv_gates.specs.Formulas.{value_of}
use Rattle.sv_blast.specs.Coded.{place_form}
use Rattle.sv_blast.proofs.DecodedLists.{those_rise, bits_small, variables_there}
use Rattle.sv_blast.proofs.DecodedLists.{listed_values, lists_values, lists_fit}
use Rattle.sv_blast.proofs.decoding.decode_places.Goals as goal

pub decode_listed-requires-clause-ascending : goal.decode_listed-requires-clause-ascending
decode_listed-requires-clause-ascending c =
    let design = design_of c.args.design.now in
    subst IsStrictlyIncreasing (sym c.registers-registers.ensures.registers)
    (those_rise (length design.signals) (flat_system design).is_register)

pub decode_listed-requires-clause-small : goal.decode_listed-requires-clause-small
decode_listed-requires-clause-small c =
    bits_small (design_of c.args.design.now) (length c.args.values.now) c.args.bits.now
    c.requires.bits c.registers-registers.ensures.design.is_sound

pub decode_listed-requires-clause-variables : goal.decode_listed-requires-clause-variables
decode_listed-requires-clause-variables c =
    variables_there (design_of c.args.design.now) (length c.args.values.now) c.args.bits.now
    c.requires.bits

pub decode_listed-requires-2-clause-ascending : goal.decode_listed-requires-2-clause-ascending
decode_listed-requires-2-clause-ascending c =
    let design = design_of c.args.design.now in
    subst IsStrictlyIncreasing (sym c.inputs-inputs.ensures.inputs)
    (those_rise (length design.signals) (flat_system design).is_input)

pub decode_listed-requires-2-clause-small : goal.decode_listed-requires-2-clause-small
decode_listed-requires-2-clause-small c =
    bits_small (design_of c.args.design.now) (length c.args.values.now) c.args.bits.now
    c.requires.bits c.registers-registers.ensures.design.is_sound

pub decode_listed-requires-2-clause-variables : goal.decode_listed-requires-2-clause-variables
decode_listed-requires-2-clause-variables c =
    variables_there (design_of c.args.design.now) (length c.args.values.now) c.args.bits.now
    c.requires.bits

pub decode_listed-requires-3-clause-ascending : goal.decode_listed-requires-3-clause-ascending
decode_listed-requires-3-clause-ascending c =
    let design = design_of c.args.design.now in
    subst IsStrictlyIncreasing (sym c.inputs-inputs.ensures.inputs)
    (those_rise (length design.signals) (flat_system design).is_input)

pub decode_listed-requires-3-clause-small : goal.decode_listed-requires-3-clause-small
decode_listed-requires-3-clause-small c =
    bits_small (design_of c.args.design.now) (length c.args.values.now) c.args.bits.now
    c.requires.bits c.registers-registers.ensures.design.is_sound

pub decode_listed-requires-3-clause-variables : goal.decode_listed-requires-3-clause-variables
decode_listed-requires-3-clause-variables c =
    variables_there (design_of c.args.design.now) (length c.args.values.now) c.args.bits.now
    c.requires.bits

pub returns : goal.returns
returns c =
    let design = design_of c.args.design.now in
    let values = value_of c.args.values.now in
    let bits = c.args.bits.now in
    let into = c.args.into.now in
    let regs = c.registers-registers in
    let ins = c.inputs-inputs in
    let listed : Valuation = record {
      regs = with_items into.regs c.decode_listed.new.into;
      inputs = with_items into.inputs c.decode_listed-2.new.into;
      next_inputs = with_items into.next_inputs c.decode_listed-3.new.into;
    } in
    let of_registers = with_items_is into.regs c.decode_listed.new.into
    (c.decode_listed.auto.into ∙ c.as_mut_slice.ensures.len)
    ∙ listed_values values false bits (numbers regs.result.now) (registers design)
    c.decode_listed.new.into regs.ensures.registers c.decode_listed.ensures in
    let of_inputs = with_items_is into.inputs c.decode_listed-2.new.into
    (c.decode_listed-2.auto.into ∙ c.as_mut_slice-2.ensures.len)
    ∙ listed_values values false bits (numbers ins.result.now) (inputs design)
    c.decode_listed-2.new.into ins.ensures.inputs c.decode_listed-2.ensures in
    let of_next = with_items_is into.next_inputs c.decode_listed-3.new.into
    (c.decode_listed-3.auto.into ∙ c.as_mut_slice-3.ensures.len)
    ∙ listed_values values true bits (numbers ins.result.now) (inputs design)
    c.decode_listed-3.new.into ins.ensures.inputs c.decode_listed-3.ensures in
    record {
      decoded = lists_values design (map place_form bits) values listed of_registers of_inputs
          of_next;
      fits = lists_fit design (length c.args.values.now) (map place_form bits) c.requires.bits values
          listed of_registers of_inputs of_next;
    }
