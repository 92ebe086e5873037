-- Which rule a text breaks first is one, but for another circle of rule 607; a text that breaks one
-- does not pass; and a text stands for one design.
use Rattle.std.proofs.Common.{◌≡◌, ℕ, ◌⊎◌, inl, inr, List, Option, Some, sym, ◌∙◌, ap, subst}
use Rattle.std.specs.Prelude.{None, Result, Err, IsFalse}
use Rattle.std.proofs.lemmas.Bool.{both_ways}
use Rattle.sv_num.specs.declared.faults.Place.{Place}
use Rattle.sv_ast.specs.Tree.{TextTree}
use Rattle.sv_ast.specs.GrammarMeaning.{Means, BreaksSyntax}
use Rattle.sv_parse_machine.proofs.OneText.{one_meaning}
use Rattle.sv_parse_machine.proofs.Syntax.{text_breaks_nothing, one_syntax_rule}
use Rattle.sv_flat.specs.Design.{FlatDesign}
use Rattle.sv_flat.specs.Admission.{IsRefused}
use Rattle.sv_elab_rules.specs.Walks.{WalkStep}
use Rattle.sv_elab_rules.specs.Rules.{step}
use Rattle.sv_elab_rules.specs.Texts.{flat_of, value_in, BreaksRule}
use Rattle.sv_report.specs.Styles.{refusal_in}
use Rattle.sv_report.specs.declared.styles.Style.{Style}
use Rattle.sv_cli.specs.Answer.{Answer, rule_broken}
use Rattle.sv_cli.specs.Texts.{has_unbuilt_item, HasUnbuiltItem, IsNotBuilt, BreaksElaboration}
use Rattle.sv_cli.specs.Texts.{StandsFor, BreaksAdmission, BreaksFirst, RefusesText, Passes}
use Rattle.sv_cli.specs.Uniqueness.{AreOneAnswer}
use Rattle.sv_cli.proofs.Admissions.{AreFromOne, admitted_breaks_none, refused_once}

pub some_is : {A : Type 0} (x y : A) → Some x ≡ Some y → x ≡ y
some_is x y e = cc

module _ (top : Option (List ℕ)) where
  -- ---- one design

  -- a text stands for one design
  pub one_design : (text : List ℕ) (d e : FlatDesign) → StandsFor top text d
      → StandsFor top text e → d ≡ e
  one_design text d e stands others =
      let same = one_meaning text stands.tree others.tree stands.means others.means in
      let flat : flat_of others.tree top ≡ Some d =
      subst (λ (t : TextTree). flat_of t top ≡ Some d) same stands.flat in
      some_is d e (sym flat ∙ others.flat)

  -- ---- a text that passes

  -- a text that means a tree without items that are not built has none
  no_unbuilt_item : (text : List ℕ) (t : TextTree) → Means text t → IsFalse (has_unbuilt_item t)
      → HasUnbuiltItem text → ⊥
  no_unbuilt_item text t means built (u, unbuilt_means, has) =
      both_ways (has_unbuilt_item u)
      (ap has_unbuilt_item (one_meaning text u t unbuilt_means means) ∙ built) has

  -- a text whose walk ends in a design breaks no rule of elaboration
  no_broken_walk : (text : List ℕ) (design : FlatDesign) → StandsFor top text design
      → (number : ℕ) (place : Place) (names : List (List ℕ))
      → BreaksElaboration top text number place names → ⊥
  no_broken_walk text design stands number place names w =
      let same = one_meaning text stands.tree w.tree stands.means w.means in
      let flat : flat_of w.tree top ≡ Some design =
      subst (λ (t : TextTree). flat_of t top ≡ Some design) same stands.flat in
      let none : flat_of w.tree top ≡ None = ap value_in w.broken in
      let both : Some design ≡ None = sym flat ∙ none in
      absurd cc

  -- a text that passes breaks no rule
  pub passes_all : (text : List ℕ) → Passes top text → (number : ℕ) (place : Place)
      (names : List (List ℕ)) → BreaksFirst top text number place names → ⊥
  passes_all text passes number place names (inl broken) =
      text_breaks_nothing text passes.stands.tree passes.stands.means number names place broken
  passes_all text passes number place names (inr (inl unbuilt)) =
      no_unbuilt_item text passes.stands.tree passes.stands.means passes.stands.built unbuilt.0
  passes_all text passes number place names (inr (inr (inl walk))) =
      no_broken_walk text passes.design passes.stands number place names walk
  passes_all text passes number place names (inr (inr (inr broken))) =
      let same = one_design text broken.design passes.design broken.stands passes.stands in
      admitted_breaks_none passes.design passes.admitted number place names
      (subst (λ (d : FlatDesign). IsRefused d number place names) same broken.refused)

  -- ---- two rules that are broken first

  -- one rule at one place, with the same names or two circles from one signal
  abbrev pub IsOneRule : (n m : ℕ) (p q : Place) (ns ms : List (List ℕ)) → Type 0
  IsOneRule n m p q ns ms = (n ≡ m) × (p ≡ q) × ((ns ≡ ms) ⊎ AreFromOne n ns ms)

  same_step : {A : Type 0} (x y : WalkStep) → ◌≡◌ {A = Result A WalkStep} (Err x) (Err y) → x ≡ y
  same_step x y e = cc

  module _ (text : List ℕ) (n m : ℕ) (p q : Place) (ns ms : List (List ℕ)) where
    one_unbuilt : IsNotBuilt n p ns → IsNotBuilt m q ms → IsOneRule n m p q ns ms
    one_unbuilt a b = (
      a.numbered ∙ sym b.numbered,
      a.placed ∙ sym b.placed,
      inl (a.nameless ∙ sym b.nameless),
    )

    walks : BreaksElaboration top text n p ns → BreaksElaboration top text m q ms
        → IsOneRule n m p q ns ms
    walks a b =
        let same = one_meaning text a.tree b.tree a.means b.means in
        let first : BreaksRule n p ns b.tree top =
        subst (λ (t : TextTree). BreaksRule n p ns t top) same a.broken in
        let steps : step n p ns ≡ step m q ms = same_step _ _ (sym first ∙ b.broken) in (
          ap (λ (s : WalkStep). s.rule) steps,
          ap (λ (s : WalkStep). s.place) steps,
          inl (ap (λ (s : WalkStep). s.names) steps),
        )

    designs : BreaksAdmission top text n p ns → BreaksAdmission top text m q ms
        → IsOneRule n m p q ns ms
    designs a b =
        let same = one_design text a.design b.design a.stands b.stands in
        refused_once b.design n m p q ns ms
        (subst (λ (d : FlatDesign). IsRefused d n p ns) same a.refused) b.refused

    by_syntax : BreaksSyntax n ns p text → BreaksSyntax m ms q text → IsOneRule n m p q ns ms
    by_syntax a b =
        let same = one_syntax_rule text n m ns ms p q a b in (same.0, same.2, inl same.1)

    pub one_first : BreaksFirst top text n p ns → BreaksFirst top text m q ms
        → IsOneRule n m p q ns ms
    one_first (inl a) (inl b) = by_syntax a b
    one_first (inl a) (inr (inl b)) = absurd (text_breaks_nothing text b.0.0 b.0.1 n ns p a)
    one_first (inl a) (inr (inr (inl b))) =
        absurd (text_breaks_nothing text b.tree b.means n ns p a)
    one_first (inl a) (inr (inr (inr b))) =
        absurd (text_breaks_nothing text b.stands.tree b.stands.means n ns p a)
    one_first (inr (inl a)) (inl b) = absurd (text_breaks_nothing text a.0.0 a.0.1 m ms q b)
    one_first (inr (inl a)) (inr (inl b)) = one_unbuilt a.1 b.1
    one_first (inr (inl a)) (inr (inr (inl b))) =
        absurd (no_unbuilt_item text b.tree b.means b.built a.0)
    one_first (inr (inl a)) (inr (inr (inr b))) =
        absurd (no_unbuilt_item text b.stands.tree b.stands.means b.stands.built a.0)
    one_first (inr (inr (inl a))) (inl b) =
        absurd (text_breaks_nothing text a.tree a.means m ms q b)
    one_first (inr (inr (inl a))) (inr (inl b)) =
        absurd (no_unbuilt_item text a.tree a.means a.built b.0)
    one_first (inr (inr (inl a))) (inr (inr (inl b))) = walks a b
    one_first (inr (inr (inl a))) (inr (inr (inr b))) =
        absurd (no_broken_walk text b.design b.stands n p ns a)
    one_first (inr (inr (inr a))) (inl b) =
        absurd (text_breaks_nothing text a.stands.tree a.stands.means m ms q b)
    one_first (inr (inr (inr a))) (inr (inl b)) =
        absurd (no_unbuilt_item text a.stands.tree a.stands.means a.stands.built b.0)
    one_first (inr (inr (inr a))) (inr (inr (inl b))) =
        absurd (no_broken_walk text a.design a.stands m q ms b)
    one_first (inr (inr (inr a))) (inr (inr (inr b))) = designs a b

    -- ---- two refusals

    module _ (style : Style) where
      told : n ≡ m → p ≡ q → ns ≡ ms → (rule_broken m q ms ≡ rule_broken n p ns)
          × (refusal_in style m q ms ≡ refusal_in style n p ns)
      told numbers places names = (
        cc,
        ap (λ k. refusal_in style k q ms) (sym numbers)
            ∙ ap (λ s. refusal_in style n s ms) (sym places)
            ∙ ap (refusal_in style n p) (sym names),
      )

      refused_alike : IsOneRule n m p q ns ms → (answer other : Answer)
          (printed others : List ℕ)
          → answer ≡ rule_broken n p ns → printed ≡ refusal_in style n p ns
          → other ≡ rule_broken m q ms → others ≡ refusal_in style m q ms
          → AreOneAnswer answer other printed others
      refused_alike (numbers, places, inl names) answer other printed others answers prints
          answers' prints' =
          let same = told numbers places names in
          inl (answers' ∙ same.0 ∙ sym answers, prints' ∙ same.1 ∙ sym prints)
      refused_alike (numbers, places, inr circles) answer other printed others answers prints
          answers' prints' =
          inr (record {
            place = p;
            first = circles.first;
            rest = circles.rest;
            rest_of_other = circles.rest_of_others;
            one =
                answers
                ∙ ap (λ k. rule_broken k p ns) circles.is_circle
                ∙ ap (rule_broken 607 p) circles.one;
            two =
                answers'
                ∙ ap (λ k. rule_broken k q ms) (sym numbers ∙ circles.is_circle)
                ∙ ap (λ s. rule_broken 607 s ms) (sym places)
                ∙ ap (rule_broken 607 p) circles.other;
          })

  -- a text that is refused is refused with one rule
  pub one_refusal : (style : Style) (text : List ℕ) (answer other : Answer)
      (printed others : List ℕ) → RefusesText style top text answer printed
      → RefusesText style top text other others → AreOneAnswer answer other printed others
  one_refusal style text answer other printed others a b =
      refused_alike text a.number b.number a.place b.place a.names b.names style
      (one_first text a.number b.number a.place b.place a.names b.names a.broken b.broken)
      answer other printed others a.answers a.prints b.answers b.prints
