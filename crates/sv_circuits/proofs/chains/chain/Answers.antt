use Rattle.std.proofs.Common.{◌≡◌, ap, sym, ◌∙◌, rules, refl, ◌∷◌}
use Rattle.std.specs.Result.{IsErrOf}
use Rattle.std.proofs.lemmas.List.{drop_all}
use Rattle.sv_gates.specs.declared.gates.GateFault.TheVariants.{Full}
use Rattle.sv_circuits.specs.BitGates.{gate_of}
use Rattle.sv_circuits.proofs.WordKeeps.{turn_of}
use Rattle.sv_circuits.proofs.WordKeeps.{word_first, word_rest, none_left}
use Rattle.sv_circuits.proofs.LoopSteps.{loop_start, one_more, left_full, gate_one, chain_step}
use Rattle.sv_circuits.proofs.LoopSteps.{chain_of_nil, chain_whole, chain_full, chain_end}
use Rattle.sv_circuits.proofs.chains.chain.Goals as goal

pub returns-in_default-clause-made : goal.returns-in_default-clause-made
returns-in_default-clause-made c =
    chain_of_nil c.args.gate c.args.word.now c.args.gates.now
    (none_left _ c.in_default.ensures.cases)
    ∙ ap (λ z. (c.args.gates.now, z)) (sym c.none_of.ensures.value)

pub members-init : goal.members-init
members-init c =
    let word : c.args.word.now ≡ c.in-Some.first.now ∷ c.in-Some.more.now = c.in-Some.ensures.cases.0 in
    (loop_start _ _ _ _ _ _ _ _ _ (word_rest _ c.requires word) tt refl refl refl
    (word_first _ c.requires word, tt)
    (chain_whole c.args.gate _ _ _ _ word))

pub joined-requires-clause-a : goal.joined-requires-clause-a
joined-requires-clause-a c = c.members.invariant.hand.0

pub joined-requires-clause-b : goal.joined-requires-clause-b
joined-requires-clause-b c =
    (word_first _ c.members.invariant.first
    (turn_of c.in-Some.more.now _ _ c.members-test.true c.literal-item.is))

pub members-preserved : goal.members-preserved
members-preserved c =
    let turn = turn_of c.in-Some.more.now _ _ c.members-test.true c.literal-item.is in
    (one_more _ _ _ _ _ _ _ _ _ _ _ _ _ c.members.invariant turn
    (chain_step (gate_of c.args.gate) _ _ _ _ _ _ _ turn c.in_ok-before.ensures.made)
    c.in_ok-before.ensures.begins (c.in_ok-before.ensures.within, tt))

pub returns-in_err-before-clause-full : goal.returns-in_err-before-clause-full
returns-in_err-before-clause-full c =
    let same : IsErrOf c.from_residual.result Full → IsErrOf c.joined.result Full = search rules in
    λ e. left_full c.members.invariant
    (chain_full (gate_of c.args.gate) _ _ _ _ _ _ (gate_one c.args.gate)
    (turn_of c.in-Some.more.now _ _ c.members-test.true c.literal-item.is)
    ((c.joined.ensures.full).0 (same e)))

pub returns-clause-made : goal.returns-clause-made
returns-clause-made c =
    c.members.invariant.made ∙ chain_end (gate_of c.args.gate) _ _ _
    (drop_all c.members.literal-index c.in-Some.more.now c.members-test.false)

pub returns-clause-within : goal.returns-clause-within
returns-clause-within c = c.members.invariant.hand.0
