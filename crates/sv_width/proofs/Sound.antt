-- What holds of an expression that breaks no rule but perhaps 405, part by part.
use Rattle.std.proofs.Common.{◌≡◌, ℕ, Bool, true, false, List, refl}
use Rattle.std.specs.Prelude.{not, ◌||◌, nat_le, IsTrue, Result, Ok, Err}
use Rattle.sv_num.specs.BinaryValues.{is_division}
use Rattle.sv_ast.specs.Scopes.{width_of}
use Rattle.sv_ast.specs.Tree.{ExpressionTree, ExpressionTrees, literal, named, bit_of, part_of}
use Rattle.sv_ast.specs.Tree.{unary, binary, choice, join, replication, no_expressions}
use Rattle.sv_ast.specs.Tree.{more_expressions}
use Rattle.sv_ast.specs.Values.{length_of, joined_length, whole_number}
use Rattle.sv_ast.specs.GrammarModules.{place_of}
use Rattle.sv_elab_rules.specs.Walks.{WalkStep, Steps, done, ask, then_walk, ◌>>=◌}
use Rattle.sv_elab_rules.specs.Names.{Names, is_parameter, in_reach, means_signal}
use Rattle.sv_elab_rules.specs.Rules.{unknown_name, too_wide, bad_select, not_constant}
use Rattle.sv_elab_rules.specs.TypedExpressions.{names_signal}
use Rattle.sv_elab_rules.specs.ExpressionSteps.{asked, asked_parts, own_divisors, sized_parts, is_below}
use Rattle.sv_elab_rules.specs.ExpressionSteps.{is_count, is_part}
use Rattle.sv_elab_rules.proofs.WalkLemmas.{asked_true}

-- each step is passed
abbrev pub Passes : Steps → Type 0
Passes w = w.end ≡ Ok tt

-- a whole that is passed is passed in both parts
pub both_pass : (w : Steps) (more : Unit {0} → Steps) → Passes (w >>= more) →
    Passes w × Passes (more tt)
both_pass w more = by_end w.end refl
  where
    by_end : (r : Result (Unit {0}) WalkStep) → w.end ≡ r
        → (then_walk w.passed r more).end ≡ Ok tt →
        Passes w × Passes (more tt)
    by_end (Ok x) e h = (e, h)
    by_end (Err s) e h = absurd (cc h)

-- a step that is asked only sometimes
pub passes_when : (b : Bool) (w : Steps) → Passes (elim b [ true ↦ w | false ↦ done tt ]) →
    b ≡ true → Passes w
passes_when true w h e = h
passes_when false w h e = absurd (cc e)

unfoldable mutual
  pub Sound : Names → Bool → ExpressionTree → Type 0
  Sound names c (literal l p) = Unit {0}
  Sound names c (named n p) =
      IsTrue (in_reach names n) × IsTrue (not c || is_parameter (names.scope n))
  Sound names c (bit_of n p i) = IsTrue (means_signal names n) × IsTrue (not c)
      × (names_signal names.scope i ≡ true → Sound names false i)
      × (names_signal names.scope i ≡ false → Sound names true i
      × Passes (own_divisors names.scope i)
      × IsTrue (is_below (width_of (names.scope n)) (whole_number names.scope i)))
  Sound names c (part_of n p h l) = IsTrue (means_signal names n) × IsTrue (not c)
      × Sound names true h × Passes (own_divisors names.scope h)
      × Sound names true l × Passes (own_divisors names.scope l)
      × IsTrue (is_part (width_of (names.scope n)) (whole_number names.scope h)
      (whole_number names.scope l))
  Sound names c (unary op p e) = Sound names c e
  Sound names c (binary op p a b) = Sound names c a × Sound names c b
      × (is_division op ≡ true →
      IsTrue (not (names_signal names.scope a || names_signal names.scope b)))
  Sound names c (choice p d a b) = Sound names c d × Sound names c a × Sound names c b
  Sound names c (join p es) =
      SoundParts names c es × IsTrue (nat_le (joined_length names.scope es) 64)
      × Passes (sized_parts es)
  Sound names c (replication p k es) = Sound names true k × Passes (own_divisors names.scope k)
      × SoundParts names c es × IsTrue (nat_le (length_of names.scope (replication p k es)) 64)
      × Passes (sized_parts es) × IsTrue (is_count (whole_number names.scope k))

  pub SoundParts : Names → Bool → ExpressionTrees → Type 0
  SoundParts names c no_expressions = Unit {0}
  SoundParts names c (more_expressions e es) = Sound names c e × SoundParts names c es

-- the index of a bit
index_sound : (names : Names) (n : List ℕ) (i : ExpressionTree) (b : Bool)
    → names_signal names.scope i ≡ b
    → (Passes (asked names false i) → Sound names false i)
    → (Passes (asked names true i) → Sound names true i)
    → Passes (elim b [
      | true ↦ asked names false i
      | false ↦ asked names true i >>= λ _. own_divisors names.scope i >>= λ _.
          ask (is_below (width_of (names.scope n)) (whole_number names.scope i))
          (bad_select (place_of i))
    ])
    → (names_signal names.scope i ≡ true → Sound names false i)
    × (names_signal names.scope i ≡ false → Sound names true i × Passes (own_divisors names.scope i)
    × IsTrue (is_below (width_of (names.scope n)) (whole_number names.scope i)))
index_sound names n i true is open_index closed_index h =
    (λ _. open_index h, λ other. absurd (cc (is, other)))
index_sound names n i false is open_index closed_index h =
    let first = both_pass (asked names true i) _ h in
    let second = both_pass (own_divisors names.scope i) _ first.1 in (
      λ other. absurd (cc (is, other)),
      λ _.
          (closed_index first.0, second.0, asked_true _ _ second.1),
    )

mutual
  unfolding asked asked_parts Sound SoundParts

  pub passed_sound : (names : Names) (c : Bool) (e : ExpressionTree) → Passes (asked names c e) →
      Sound names c e
  passed_sound names c (literal l p) h = tt
  passed_sound names c (named n p) h =
      let first = both_pass (ask (in_reach names n) (unknown_name p n)) _ h in
      (asked_true _ _ first.0, asked_true _ _ first.1)
  passed_sound names c (bit_of n p i) h =
      let first = both_pass (ask (means_signal names n) (unknown_name p n)) _ h in
      let second = both_pass (ask (not c) (not_constant p)) _ first.1 in
      let inner = index_sound names n i (names_signal names.scope i) refl
      (passed_sound names false i) (passed_sound names true i) second.1 in
      (asked_true _ _ first.0, asked_true _ _ second.0, inner.0, inner.1)
  passed_sound names c (part_of n p h l) q =
      let first = both_pass (ask (means_signal names n) (unknown_name p n)) _ q in
      let second = both_pass (ask (not c) (not_constant p)) _ first.1 in
      let third = both_pass (asked names true h) _ second.1 in
      let fourth = both_pass (own_divisors names.scope h) _ third.1 in
      let fifth = both_pass (asked names true l) _ fourth.1 in
      let sixth = both_pass (own_divisors names.scope l) _ fifth.1 in (
        asked_true _ _ first.0,
        asked_true _ _ second.0,
        passed_sound names true h third.0,
        fourth.0,
        passed_sound names true l fifth.0,
        sixth.0,
        asked_true _ _ sixth.1,
      )
  passed_sound names c (unary op p e) h = passed_sound names c e h
  passed_sound names c (binary op p a b) h =
      let first = both_pass (asked names c a) _ h in
      let second = both_pass (asked names c b) _ first.1 in (
        passed_sound names c a first.0,
        passed_sound names c b second.0,
        λ is. asked_true _ _ (passes_when (is_division op) _ second.1 is),
      )
  passed_sound names c (choice p d a b) h =
      let first = both_pass (asked names c d) _ h in
      let second = both_pass (asked names c a) _ first.1 in (
        passed_sound names c d first.0,
        passed_sound names c a second.0,
        passed_sound names c b
            second.1,
      )
  passed_sound names c (join p es) h =
      let first = both_pass (asked_parts names c es) _ h in
      let second = both_pass (ask (nat_le (joined_length names.scope es) 64) (too_wide p)) _
      first.1 in
      (passed_parts names c es first.0, asked_true _ _ second.0, second.1)
  passed_sound names c (replication p k es) h =
      let first = both_pass (asked names true k) _ h in
      let second = both_pass (own_divisors names.scope k) _ first.1 in
      let third = both_pass (asked_parts names c es) _ second.1 in
      let fourth = both_pass
      (ask (nat_le (length_of names.scope (replication p k es)) 64) (too_wide p)) _ third.1 in
      let fifth = both_pass (sized_parts es) _ fourth.1 in (
        passed_sound names true k first.0,
        second.0,
        passed_parts names c es third.0,
        asked_true _ _ fourth.0,
        fifth.0,
        asked_true _ _ fifth.1,
      )

  pub passed_parts : (names : Names) (c : Bool) (es : ExpressionTrees) →
      Passes (asked_parts names c es) → SoundParts names c es
  passed_parts names c no_expressions h = tt
  passed_parts names c (more_expressions e es) h =
      let first = both_pass (asked names c e) _ h in
      (passed_sound names c e first.0, passed_parts names c es first.1)
