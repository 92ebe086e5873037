-- How what is read of instances and of what wakes a process is put together.
use Rattle.std.proofs.Common.{◌≡◌, ℕ, List, [], ◌∷◌, Option, Some, None, inr, refl, sym, ◌∙◌, subst}
use Rattle.sv_num.specs.declared.faults.Place.{Place}
use Rattle.sv_token.specs.declared.signs.SignKind.TheVariants as signs
use Rattle.sv_token.specs.Lexemes.{Placed}
use Rattle.sv_ast.specs.Tree.{ExpressionTree, OverrideTrees, named_overrides, ordered_overrides}
use Rattle.sv_ast.specs.Tree.{InstanceTree, ordered_links, PlacedName}
use Rattle.sv_ast.specs.GrammarForms.{Form, ◌⨾◌, given, commas, name_at, a_sign}
use Rattle.sv_ast.specs.GrammarDeclarations.{IsValue}
use Rattle.sv_ast.specs.GrammarModules.{by_name, AreOverrides, AreLinks, IsNamedInstance}
use Rattle.sv_ast.specs.GrammarModules.{IsInstance, AreOfOneModule, IsEvent}
use Rattle.sv_ast.specs.GrammarRules.{all_limits}
use Rattle.sv_parse.specs.ReadingItems.{AreOpenOverrides, IsInstanceAs, IsOpenEvent}

pub dotted_is :
    (x : List ℕ) (p : Place) (P : Form) (ts a rest : List Placed) →
    (a_sign signs.Dot ⨾ name_at x p ⨾ a_sign signs.OpenParenthesis) ts a →
    (P ⨾ a_sign signs.CloseParenthesis) a rest → by_name x p P ts rest
dotted_is x p P ts a rest begins ends =
    let second = begins.2 in
    (begins.0, begins.1, (second.0, second.1, (a, second.2, ends)))

pub overrides_are :
    (o : OverrideTrees) (ts a b c rest : List Placed) →
    a_sign signs.Hash ts a → a_sign signs.OpenParenthesis a b → AreOpenOverrides o b c →
    a_sign signs.CloseParenthesis c rest →
    AreOverrides all_limits o ts rest
overrides_are (named_overrides os) ts a b c rest hash opens h closes =
    (a, hash, (b, opens, (c, h, closes)))
overrides_are (ordered_overrides []) ts a b c rest hash opens h closes = absurd h
overrides_are (ordered_overrides (e ∷ es)) ts a b c rest hash opens h closes =
    (a, hash, (b, opens, (c, h, closes)))

pub ordered_links_are :
    (es : List ExpressionTree) (ts rest : List Placed) → commas (IsValue all_limits) es ts rest →
    AreLinks all_limits (ordered_links es) ts rest
ordered_links_are [] ts rest h = absurd h
ordered_links_are (e ∷ es) ts rest h = h

pub instance_is :
    (x : List ℕ) (p : Place) (o : OverrideTrees) (i : InstanceTree) (ts a b rest : List Placed) →
    name_at x p ts a → AreOverrides all_limits o a b → IsInstanceAs x p o i b rest →
    IsInstance all_limits i ts rest
instance_is x p o i ts a b rest name overrides h =
    let same = h.0 in (
      a,
      subst (λ (y : List ℕ).
          name_at y i.place ts a) (sym same.0)
          (subst (λ (q : Place). name_at x q ts a) (sym same.1) name),
      (b, subst (λ (v : OverrideTrees). AreOverrides all_limits v a b) (sym same.2) overrides, h.1),
    )

pub later_instance :
    (before i : InstanceTree) (x : List ℕ) (o : OverrideTrees) (ts rest : List Placed) →
    x ≡ before.master → o ≡ before.overrides → IsInstanceAs x before.place o i ts rest →
    (given (AreOfOneModule before i) (IsNamedInstance all_limits i)) ts rest
later_instance before i x o ts rest same_master same_overrides h =
    let same = h.0 in
    ((same.0 ∙ same_master, same.1, same.2 ∙ same_overrides), h.1)

pub event_is :
    (clock : Option PlacedName) (ts a rest : List Placed) → a_sign signs.OpenParenthesis ts a →
    IsOpenEvent clock a rest → IsEvent clock ts rest
event_is None ts a rest opens h = inr (a, opens, h)
event_is (Some clock) ts a rest opens h =
    let second = h.2 in
    (a, opens, (second.0, (h.0, h.1, second.1), second.2))

pub no_links : (es : List ExpressionTree) (ts : List Placed) → es ≡ [] →
    AreLinks all_limits (ordered_links es) ts ts
no_links es ts eq =
    subst (λ (xs : List ExpressionTree). AreLinks all_limits (ordered_links xs) ts ts) (sym eq) refl

pub no_overrides : (es : List ExpressionTree) (ts : List Placed) → es ≡ [] →
    AreOverrides all_limits (ordered_overrides es) ts ts
no_overrides es ts eq =
    subst (λ (xs : List ExpressionTree). AreOverrides all_limits (ordered_overrides xs) ts ts)
    (sym eq) refl
