-- What constants and ranges are asked does not depend on the numbers of signals.
use Rattle.std.proofs.Common.{◌≡◌, ℕ, Bool, true, false, List, Option, Some, None, refl, ap, ◌∙◌}
use Rattle.std.specs.Prelude.{not, ◌||◌, nat_le}
use Rattle.sv_num.specs.BinaryValues.{is_division}
use Rattle.sv_ast.specs.Scopes.{Scope, width_of}
use Rattle.sv_ast.specs.Tree.{ExpressionTree, ExpressionTrees, literal, named, bit_of, part_of}
use Rattle.sv_ast.specs.Tree.{unary, binary, choice, join, replication, no_expressions}
use Rattle.sv_ast.specs.Tree.{more_expressions, SpanTree}
use Rattle.sv_ast.specs.Values.{length_of, joined_length, whole_number, constant_of}
use Rattle.sv_ast.specs.GrammarModules.{place_of}
use Rattle.sv_elab_rules.specs.Walks.{Steps, done, ask, ◌>>=◌}
use Rattle.sv_elab_rules.specs.Rules.{unknown_name, too_wide, bad_select, not_constant, division, bad_count}
use Rattle.sv_elab_rules.specs.Rules.{bad_range}
use Rattle.sv_elab_rules.specs.Names.{Names, means_signal}
use Rattle.sv_elab_rules.specs.TypedExpressions.{names_signal}
use Rattle.sv_elab_rules.specs.ExpressionSteps.{own_divisors, is_below, is_count, is_part, sized_parts}
use Rattle.sv_elab_rules.specs.ExpressionSteps.{asked, asked_parts, constant_walk}
use Rattle.sv_elab_rules.specs.Declarations.{is_range, range_steps}

module _ (scope : Scope) (later : List ℕ → Bool) (first second : List ℕ → ℕ) where
  abbrev one : Names
  one = record { scope = scope; number = first; later = later }

  abbrev two : Names
  two = record { scope = scope; number = second; later = later }

  mutual
    unfolding asked asked_parts

    asked_alike : (c : Bool) (e : ExpressionTree) → asked one c e ≡ asked two c e
    asked_alike c (literal l p) = refl
    asked_alike c (named n p) = refl
    asked_alike c (bit_of n p i) =
        let with : Steps → Steps → Steps = λ index constant.
        ask (means_signal one n) (unknown_name p n) >>= λ _. ask (not c) (not_constant p) >>= λ _.
        elim (names_signal scope i) [
          | true ↦ index
          | false ↦
              constant >>= λ _. own_divisors scope i >>= λ _.
              ask (is_below (width_of (scope n)) (whole_number scope i)) (bad_select (place_of i))
        ] in
        ap (λ w. with w (asked one true i)) (asked_alike false i)
        ∙ ap (λ w. with (asked two false i) w) (asked_alike true i)
    asked_alike c (part_of n p h l) =
        let with : Steps → Steps → Steps = λ high low.
        ask (means_signal one n) (unknown_name p n) >>= λ _. ask (not c) (not_constant p) >>= λ _.
        high >>= λ _. own_divisors scope h >>= λ _. low >>= λ _. own_divisors scope l >>= λ _.
        ask (is_part (width_of (scope n)) (whole_number scope h) (whole_number scope l))
        (bad_select p) in
        ap (λ w. with w (asked one true l)) (asked_alike true h)
        ∙ ap (λ w. with (asked two true h) w) (asked_alike true l)
    asked_alike c (unary op p e) = asked_alike c e
    asked_alike c (binary op p a b) =
        let with : Steps → Steps → Steps = λ left right.
        left >>= λ _. right >>= λ _. elim (is_division op) [
          | true ↦ ask (not (names_signal scope a || names_signal scope b)) (division p)
          | false ↦ done tt
        ] in
        ap (λ w. with w (asked one c b)) (asked_alike c a)
        ∙ ap (λ w. with (asked two c a) w) (asked_alike c b)
    asked_alike c (choice p k a b) =
        let with : Steps → Steps → Steps → Steps = λ condition left right.
        condition >>= λ _. left >>= λ _. right in
        ap (λ w. with w (asked one c a) (asked one c b)) (asked_alike c k)
        ∙ ap (λ w. with (asked two c k) w (asked one c b)) (asked_alike c a)
        ∙ ap (λ w. with (asked two c k) (asked two c a) w) (asked_alike c b)
    asked_alike c (join p es) =
        ap (λ w. w >>= λ _. ask (nat_le (joined_length scope es) 64) (too_wide p) >>= λ _.
        sized_parts es) (parts_alike c es)
    asked_alike c (replication p k es) =
        let with : Steps → Steps → Steps = λ count parts.
        count >>= λ _. own_divisors scope k >>= λ _. parts >>= λ _.
        ask (nat_le (length_of scope (replication p k es)) 64) (too_wide p) >>= λ _.
        sized_parts es >>= λ _. ask (is_count (whole_number scope k)) (bad_count (place_of k)) in
        ap (λ w. with w (asked_parts one c es)) (asked_alike true k)
        ∙ ap (λ w. with (asked two true k) w) (parts_alike c es)

    parts_alike : (c : Bool) (es : ExpressionTrees) → asked_parts one c es ≡ asked_parts two c es
    parts_alike c no_expressions = refl
    parts_alike c (more_expressions e es) =
        let with : Steps → Steps → Steps = λ part parts. part >>= λ _. parts in
        ap (λ w. with w (asked_parts one c es)) (asked_alike c e)
        ∙ ap (λ w. with (asked two c e) w) (parts_alike c es)

  pub range_alike : (span : Option SpanTree) → range_steps one span ≡ range_steps two span
  unfolding range_steps constant_walk
  range_alike None = refl
  range_alike (Some span) =
      let with : Steps → Steps → Steps = λ high low.
      (high >>= λ _. own_divisors scope span.high >>= λ _. done (constant_of scope span.high))
      >>= λ _.
      (low >>= λ _. own_divisors scope span.low >>= λ _. done (constant_of scope span.low)) >>= λ _.
      ask (is_range 64 (whole_number scope span.high) (whole_number scope span.low))
      (bad_range (place_of span.high)) in
      ap (λ w. with w (asked one true span.low)) (asked_alike true span.high)
      ∙ ap (λ w. with (asked two true span.high) w) (asked_alike true span.low)
