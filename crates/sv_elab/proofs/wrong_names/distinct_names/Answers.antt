use Rattle.std.proofs.Common.{◌≡◌, [], Option, Some, None, refl, sym, ap, ◌∙◌, subst}
use Rattle.std.specs.Prelude.{map}
use Rattle.sv_ast.specs.Views.{placed_name, pair_tree, lattice_tree}
use Rattle.sv_elab_rules.specs.Walks.{WalkStep}
use Rattle.sv_elab_rules.specs.Lattices.{point_questions, pair_questions}
use Rattle.sv_elab.specs.Earliest.{earlier, earliest, name_step, names_of, name_steps}
use Rattle.sv_elab.proofs.EarliestLemmas.{end_at}
use Rattle.sv_elab.proofs.NameLemmas.{KnowSame}
use Rattle.sv_elab.proofs.DeclaredLattices.{asked_names, point_names_are}
use Rattle.sv_elab.proofs.wrong_names.distinct_names.Goals as goal
use Rattle.sv_elab.proofs.wrong_names.distinct_names.Goals.{In_ok-names}

-- the walk of the names ends at the first step that is broken, if one is
asked : (c : In_ok-names) (first : Option WalkStep)
    → first ≡ earlier (name_step c.in_ok-names.wrong) (earliest
    (pair_questions c.in_ok-names.names.keys (map pair_tree c.args.text.now.pairs.items)))
    → (name_steps (lattice_tree c.args.text.now)).end ≡ end_at first
asked c first is =
    asked_names c.args.text.now.place c.args.text.now.points.items c.args.text.now.pairs.items
    c.in_ok-names.names.keys (name_step c.in_ok-names.wrong) first
    (c.in_ok-names.ensures.wrong
    ∙ ap (λ ps. earliest (point_questions [] (map placed_name ps))) c.deref.ensures.value)
    (subst (λ ps. KnowSame c.in_ok-names.names.keys (names_of ps)) c.deref.ensures.value
    c.in_ok-names.ensures.known) is

pub returns-in-Some-clause-broken : goal.returns-in-Some-clause-broken
returns-in-Some-clause-broken c =
    c.refusal_naming.ensures (name_steps (lattice_tree c.args.text.now)).end
    (asked (goal.at.returns-in-Some-clause-broken c).In_ok-names (name_step (Some c.in-Some.wrong))
    (c.in-Some.ensures
    ∙ ap (λ ps. earlier (name_step c.in_ok-names.wrong)
    (earliest (pair_questions c.in_ok-names.names.keys (map pair_tree ps))))
    c.deref-2.ensures.value))

pub returns-in-None-clause-asked : goal.returns-in-None-clause-asked
returns-in-None-clause-asked c =
    asked (goal.at.returns-in-None-clause-asked c).In_ok-names None
    (c.in-None.ensures
    ∙ ap (λ ps. earlier (name_step c.in_ok-names.wrong)
    (earliest (pair_questions c.in_ok-names.names.keys (map pair_tree ps))))
    c.deref-2.ensures.value)

pub returns-in-None-clause-names : goal.returns-in-None-clause-names
returns-in-None-clause-names c =
    c.in_ok-names.ensures.all (none_first _ _ (sym c.in-None.ensures))
    ∙ ap names_of c.deref.ensures.value ∙ sym (point_names_are c.args.text.now.points.items)
  where
    none_first : (a b : Option WalkStep) → earlier a b ≡ None → a ≡ None
    none_first None b h = refl
    none_first (Some a) None h = h
    none_first (Some a) (Some b) h = absurd (cc h)
