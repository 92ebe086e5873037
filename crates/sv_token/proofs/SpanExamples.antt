-- Spans of tokens.
use Rattle.std.proofs.Common.{[], ◌∷◌, Some, None, lit<, lit≤, refl}
use Rattle.std.specs.Prelude.{codes}
use Rattle.sv_token.specs.declared.signs.SignKind.TheVariants.{Operator}
use Rattle.sv_token.specs.declared.tokens.Token.{Token}
use Rattle.sv_token.specs.declared.tokens.TokenKind.TheVariants.{Name, Sign}
use Rattle.sv_token.specs.Spans.{IsAtSpan, IsAtPlace, AreInOrder}
use Rattle.sv_token.proofs.Computed.{computed}

-- `ab` and `<=` in the text `ab <=`
abbrev pub first_token : Token
first_token = record { kind = Name; start = 0; «end» = 2; place = record { line = 1; column = 1 } }

abbrev pub second_token : Token
second_token = record {
  kind = Sign (Operator (record { binary = Some 10; unary = None }));
  start = 3;
  «end» = 5;
  place = record { line = 1; column = 4 };
}

pub name_at_its_span : IsAtSpan (codes "ab <=") first_token
unfolding computed
name_at_its_span = (97, codes "b <=", refl, refl)

pub sign_at_its_span : IsAtSpan (codes "ab <=") second_token
unfolding computed
sign_at_its_span = (60, codes "=", refl, refl)

pub sign_at_its_place : IsAtPlace (codes "ab <=") second_token
sign_at_its_place = refl

pub one_behind_the_other : AreInOrder 0 (first_token ∷ second_token ∷ [])
one_behind_the_other = (lit≤ tt, lit< tt, (lit≤ tt, lit< tt, tt))
