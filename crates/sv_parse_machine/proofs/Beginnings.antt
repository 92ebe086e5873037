-- A text begins with the tokens exactly where the machine walks over them; and what a failed run
-- says of the rules.
use Rattle.std.proofs.Common.{◌≡◌, ℕ, ◌+◌, ◌-◌, max, List, ◌++◌, length, Option, Some, None, refl}
use Rattle.std.proofs.Common.{sym, ap, subst, ◌∙◌, arith}
use Rattle.std.specs.Prelude.{IsTrue}
use Rattle.sv_token.specs.Lexemes.{Placed}
use Rattle.sv_ast.specs.Tree.{TextTree}
use Rattle.sv_ast.specs.GrammarExpressions.{Limits, is_within}
use Rattle.sv_ast.specs.GrammarModules.{IsText}
use Rattle.sv_ast.specs.GrammarRules.{BeginText}
use Rattle.sv_parse_machine.specs.Symbols.{State}
use Rattle.sv_parse_machine.specs.Machine.{MachineStep, goes, fails_as, Failure, done, run}
use Rattle.sv_parse_machine.specs.Machine.{text_state}
use Rattle.sv_parse_machine.proofs.TextForm.{text_form}
use Rattle.sv_parse_machine.proofs.Runs.{f_run, run_of_text, text_of_run}
use Rattle.sv_parse_machine.proofs.Walks.{walk, run_of_walk, walk_of_run, shift, shift_step, CountAlike}
use Rattle.sv_parse_machine.proofs.Walks.{shift_walk}
use Rattle.sv_parse_machine.proofs.Invariants.{Sound, sound_walk, closing_state, completes}

-- ---- walks of whole beginnings

pub goes_back : (m : ℕ) (st : MachineStep) (next : State) → shift_step m st ≡ goes next →
    (s : State) × (st ≡ goes s)
goes_back m (goes s) next e = (s, refl)
goes_back m (fails_as f) next e = absurd (cc)

pub fails_back : (m : ℕ) (st : MachineStep) (f : Failure) → shift_step m st ≡ fails_as f →
    st ≡ fails_as f
fails_back m (goes s) f e = absurd (cc)
fails_back m (fails_as g) f e = cc

unread_alike : (m : ℕ) (k : Limits) → k.unread ≡ 0 → CountAlike m k m
unread_alike m k none start after = rw none (omega arith)

read_alike : (m : ℕ) (k : Limits) → k.unread ≡ 0 → CountAlike m k 0
read_alike m k none start after = rw none (omega arith)

no_offset : (m : ℕ) → 0 + m ≡ m
no_offset m = omega arith

-- with others behind that were not read
pub walk_unread : (k : Limits) → k.unread ≡ 0 → (us ts : List Placed) →
    walk (record k { unread = length us }) (length us) text_state ts ≡
    shift_step (length us) (walk k 0 text_state ts)
walk_unread k none us ts =
    subst (λ n. walk (record k { unread = length us }) n text_state ts ≡
    shift_step (length us) (walk k 0 text_state ts)) (no_offset (length us))
    (shift_walk (length us) (length us) k (unread_alike (length us) k none) 0 ts text_state)

-- with others behind that count
pub walk_read : (k : Limits) → k.unread ≡ 0 → (m : ℕ) (ts : List Placed) →
    walk (record k { unread = 0 }) m text_state ts ≡ shift_step m (walk k 0 text_state ts)
walk_read k none m ts =
    subst (λ n. walk (record k { unread = 0 }) n text_state ts ≡
    shift_step m (walk k 0 text_state ts)) (no_offset m)
    (shift_walk m 0 k (read_alike m k none) 0 ts text_state)

pub start_is_sound : (l : Limits) (a : ℕ) → Sound l a text_state
start_is_sound l a =
    record {
      start = 0;
      shape = record { layers = tt; sane = refl; plain = refl };
      counted = none l.tokens;
    }
  where
    none : (o : Option ℕ) → IsTrue (is_within o (0 - max a l.unread))
    none None = refl
    none (Some m) = grind arith

within_start : (o : Option ℕ) (u n : ℕ) → u ≡ 0 → IsTrue (is_within o (n - max 0 u)) →
    IsTrue (is_within o n)
within_start None u n none is = refl
within_start (Some m) u n none is = grind arith

module _ (form_of : (l : Limits) (t : TextTree) (ts : List Placed) → IsText l t ts → text_form l ts)
    (text_of : (l : Limits) (ts : List Placed) → text_form l ts →
    (t : TextTree) × IsText l t ts) where
  -- ---- beginnings

  pub walk_of_beginning : (k : Limits) → k.unread ≡ 0 → (ts : List Placed) → BeginText k ts →
      (s : State) × (walk k 0 text_state ts ≡ goes s)
  unfolding BeginText
  walk_of_beginning k none ts (others, t, is) =
      let run = run_of_text (record k { unread = length others }) (ts ++ others)
      (form_of (record k { unread = length others }) t (ts ++ others) is) in
      let walked = walk_of_run (record k { unread = length others }) ts others text_state run in
      goes_back (length others) (walk k 0 text_state ts) walked.0
      (sym (walk_unread k none others ts) ∙ walked.1)

  pub beginning_of_walk : (k : Limits) → k.unread ≡ 0 → IsTrue (is_within k.arms 1) →
      (ts : List Placed) (s : State) → walk k 0 text_state ts ≡ goes s → BeginText k ts
  unfolding BeginText
  beginning_of_walk k none few ts s walked =
      let us : List Placed = closing_state s in
      let u : ℕ = length us in
      let sound = sound_walk k 0 ts text_state s (length ts + 0) refl
      (start_is_sound k (length ts + 0)) walked in
      let fits = completes k u sound.start s few
      (within_start k.tokens k.unread sound.start none sound.counted) sound.shape
      (omega arith) in
      let rest = f_run (record k { unread = u }) us (shift u s) fits in
      let first : walk (record k { unread = u }) u text_state ts ≡ goes (shift u s) =
      walk_unread k none us ts ∙ ap (shift_step u) walked in
      let whole : run (record k { unread = u }) text_state (ts ++ us) ≡ done =
      run_of_walk (record k { unread = u }) ts us text_state (shift u s) first ∙ rest in
      let text = text_of (record k { unread = u }) (ts ++ us)
      (text_of_run (record k { unread = u }) (ts ++ us) whole) in
      (us, text.0, text.1)

  -- no text begins with tokens that the machine does not walk over
  pub no_beginning : (k : Limits) → k.unread ≡ 0 → (ts : List Placed) (f : Failure) →
      walk k 0 text_state ts ≡ fails_as f → BeginText k ts → ⊥
  no_beginning k none ts f failed begins =
      let walked = walk_of_beginning k none ts begins in
      let clash : goes walked.0 ≡ fails_as f = sym walked.1 ∙ failed in
      cc
