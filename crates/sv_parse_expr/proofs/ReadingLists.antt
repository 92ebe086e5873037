-- How lists with commas between their members are put together.
use Rattle.std.proofs.Common.{◌≡◌, List, [], ◌∷◌, ◌++◌, refl, sym, ap, ◌∙◌, append_assoc, map}
use Rattle.std.proofs.Common.{subst}
use Rattle.std.proofs.lemmas.List.{map_push}
use Rattle.sv_token.specs.Lexemes.{Placed}
use Rattle.sv_token.specs.declared.signs.SignKind.TheVariants as signs
use Rattle.sv_ast.specs.GrammarForms.{Form, a_sign, later, listed}
use Rattle.sv_ast.specs.GrammarStatements.{only}
use Rattle.sv_parse_expr.specs.Reading.{AreLater}

-- whatever members follow from here on, all that follow the first are of the form
pub record AreOpen (A : Type 0) (Later : A → A →
    Form) (first : A) (front : List A) (before : A) (ts here : List Placed) : Type 0 where
  pub closed :
      (others : List A) (rest : List Placed) → later Later before others here rest →
      (all : List A) × (front ++ before ∷ others ≡ first ∷ all) × later Later first all ts rest

pub open_more :
    (A : Type 0) (Later : A → A →
    Form) (first : A) (front : List A) (before next : A) (ts a b c : List Placed) →
    AreOpen A Later first front before ts a → a_sign signs.Comma a b → Later before next b c →
    AreOpen A Later first (front ++ before ∷ []) next ts c
open_more A Later first front before next ts a b c h comma is = record {
  closed = λ others rest more.
      let all = h.closed (next ∷ others) rest (b, comma, (c, is, more)) in
      (all.0, append_assoc front (before ∷ []) (next ∷ others) ∙ all.1, all.2);
}

pub open_end :
    (A : Type 0) (Later : A → A →
    Form) (first : A) (front : List A) (before : A) (ts here : List Placed) →
    AreOpen A Later first front before ts here →
    AreLater A Later first (front ++ before ∷ []) ts here
open_end A Later first front before ts here h =
    let all = h.closed [] here refl in
    record { others = all.0; whole = all.1; are = all.2 }

-- what a vector holds behind a push
pub pushed_open :
    (A X : Type 0) (f : X → A) (Later : A → A →
    Form) (first next : A) (all items : List X) (x : X) (ts here : List Placed) →
    all ≡ items ++ x ∷ [] → AreOpen A Later first (map f items ++ f x ∷ []) next ts here →
    AreOpen A Later first (map f all) next ts here
pushed_open A X f Later first next all items x ts here eq h =
    subst (λ (xs : List A).
    AreOpen A Later first xs next ts here) (sym (ap (map f) eq ∙ map_push f items x)) h

pub pushed_later :
    (A X : Type 0) (f : X → A) (Later : A → A →
    Form) (first : A) (all items : List X) (x : X) (ts here : List Placed) →
    all ≡ items ++ x ∷ [] → AreLater A Later first (map f items ++ f x ∷ []) ts here →
    AreLater A Later first (map f all) ts here
pushed_later A X f Later first all items x ts here eq h =
    subst (λ (xs : List A).
    AreLater A Later first xs ts here) (sym (ap (map f) eq ∙ map_push f items x)) h

pub list_is :
    (A : Type 0) (First : A → Form) (Later : A → A →
    Form) (first : A) (all : List A) (ts a rest : List Placed) →
    First first ts a → AreLater A Later first all a rest → listed First Later all ts rest
list_is A First Later first all ts a rest is others = rw others.whole (a, is, others.are)

-- a vector of one member
pub one_is :
    (A X : Type 0) (f : X → A) (P : A → Form) (items : List X) (x : X) (ts rest : List Placed) →
    items ≡ x ∷ [] → P (f x) ts rest → only P (map f items) ts rest
one_is A X f P items x ts rest eq h = rw eq h
