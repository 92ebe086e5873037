use Rattle.std.proofs.Common.{◌≡◌, ℕ, ◌∷◌, ◌+◌, ◌<◌, List, length, get_or, drop, sym, ap, ap₂}
use Rattle.std.proofs.Common.{subst}
use Rattle.std.proofs.Common.{◌∙◌, rules}
use Rattle.std.specs.Result.{IsErrOf}
use Rattle.std.proofs.lemmas.List.{drop_more}
use Rattle.sv_gates.specs.declared.gates.GateFault.TheVariants.{Full}
use Rattle.sv_gates.specs.Formulas.{Formula, most_variables}
use Rattle.sv_gates.specs.Gates.{mux_gate}
use Rattle.sv_circuits.specs.Circuits.{IsWord}
use Rattle.sv_circuits.specs.Words.{Word, bitwise_word}
use Rattle.sv_blast.specs.FollowedWords.{pairs}
use Rattle.sv_blast.specs.WordTables.{words_of}
use Rattle.sv_blast.specs.declared.followed_arms.CopyWord.{CopyWord}
use Rattle.sv_blast.proofs.CopyChoices.{choosing_start, one_stands, there_stands, choosing_full}
use Rattle.sv_blast.proofs.CopyChoices.{choosing_more}
use Rattle.sv_blast.proofs.followed.Followed.choose.Goals as goal

abbrev entry : CopyWord → ℕ × Word
entry first = (first.copy.0, first.word.items)

-- the words from one on are that one and those after it
turn_at : (items here : List CopyWord) (i : ℕ) (first : CopyWord) → here ≡ items →
    i < length here → first ≡ get_or here i first →
    pairs (drop i items) ≡ entry first ∷ pairs (drop (i + 1) items)
turn_at items here i first same inside is =
    ap (λ ys. pairs (drop i ys)) (sym same)
    ∙ ap pairs (drop_more here i first inside ∙ ap (λ z. z ∷ drop (i + 1) here) (sym is))
    ∙ ap (λ ys. entry first ∷ pairs (drop (i + 1) ys)) same

pub loop-first-init : goal.loop-first-init
loop-first-init c = choosing_start _ _ _ _ _ _ c.requires.arm.0 c.requires.arm.1 c.requires.stand

pub chosen-requires-clause-a : goal.chosen-requires-clause-a
chosen-requires-clause-a c =
    let turn = turn_at c.args.arm.now.words.items c.deref-first-items.result.now
    c.loop-first.first-index c.first-item.result c.deref-first-items.ensures.value
    c.loop-first-test.true c.first-item.is in
    subst (IsWord c.loop-first.gates.variables) (sym c.deref.ensures.value)
    (one_stands _ _ _ c.args.arm.now.condition _ _ _ _ c.loop-first.gates
    (words_of c.loop-first.words) c.loop-first.invariant turn).1.0

pub chosen-requires-clause-b : goal.chosen-requires-clause-b
chosen-requires-clause-b c =
    let turn = turn_at c.args.arm.now.words.items c.deref-first-items.result.now
    c.loop-first.first-index c.first-item.result c.deref-first-items.ensures.value
    c.loop-first-test.true c.first-item.is in
    subst (IsWord c.loop-first.gates.variables) (sym c.word-second.ensures)
    (there_stands _ _ _ c.args.arm.now.condition _ _ _ _ c.loop-first.gates
    (words_of c.loop-first.words) c.loop-first.invariant turn)

pub returns-in_err-word-clause-full : goal.returns-in_err-word-clause-full
returns-in_err-word-clause-full c =
    let turn = turn_at c.args.arm.now.words.items c.deref-first-items.result.now
    c.loop-first.first-index c.first-item.result c.deref-first-items.ensures.value
    c.loop-first-test.true c.first-item.is in
    let same : IsErrOf c.from_residual.result Full → IsErrOf c.chosen.result Full = search rules in
    λ e. choosing_full _ _ _ c.args.arm.now.condition _ _ _ _ c.loop-first.gates
    (words_of c.loop-first.words) c.loop-first.invariant turn
    most_variables
    (subst (λ (z : Formula × Word). most_variables < z.0.variables)
    (ap₂ (λ a b. bitwise_word (mux_gate c.args.arm.now.condition) a b c.loop-first.gates)
    c.deref.ensures.value c.word-second.ensures) (c.chosen.ensures.full (same e)))

pub loop-first-preserved : goal.loop-first-preserved
loop-first-preserved c =
    let turn = turn_at c.args.arm.now.words.items c.deref-first-items.result.now
    c.loop-first.first-index c.first-item.result c.deref-first-items.ensures.value
    c.loop-first-test.true c.first-item.is in
    choosing_more _ _ _ c.args.arm.now.condition _ _ _ _ c.loop-first.gates
    (words_of c.loop-first.words) c.loop-first.invariant turn
    c.chosen.new.gates c.in_ok-word.word.items _
    (sym (ap₂ (λ a b. bitwise_word (mux_gate c.args.arm.now.condition) a b c.loop-first.gates)
    c.deref.ensures.value c.word-second.ensures) ∙ c.in_ok-word.ensures.made)
    c.in_ok-word.ensures.within c.in_ok-word.ensures.begins c.in_ok-put.ensures
