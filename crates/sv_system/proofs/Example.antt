-- A system that has all the facts: the label of an input and of its copy hangs on another input,
-- and a register keeps the copy.
use Rattle.std.proofs.Common.{◌≡◌, ℕ, ◌<◌, ◌^◌, Bool, true, false, eqb, List, [], ◌∷◌, refl, sym}
use Rattle.std.proofs.Common.{ap, subst, ◌∙◌, ⊎_elim, arith}
use Rattle.std.specs.Prelude.{Contains, IsTrue}
use Rattle.std.specs.List.{IsDistinct}
use Rattle.std.proofs.lemmas.Bool.{true≢false, false≢true}
use Rattle.std.proofs.lemmas.List.Elements.{Contains-append_right}
use Rattle.sv_system.specs.System.{System, Environment, IsStill, Noninterferent, HasOneTrace, put}
use Rattle.sv_system.specs.Facts.{IsCombinational, Guarded, Driver, Ordered}
use Rattle.sv_system.proofs.Lists.{Contains-head, Contains-nil, Contains-cases}
use Rattle.sv_system.proofs.OneTarget.{OneTarget, one_still_targets, one_targets_still}
use Rattle.sv_system.proofs.Noninterference.{noninterference}
use Rattle.sv_system.proofs.OneTrace.{one_trace}

pub data Wire : Type 0 where
  mode secret copy kept : Wire

abbrev pub same : Wire → Wire → Bool
same mode mode = true
same secret secret = true
same copy copy = true
same kept kept = true
same _ _ = false

-- `true` is the higher point
abbrev pub flows : Bool → Bool → Bool
flows false b = true
flows true b = b

abbrev pub is_input : Wire → Bool
is_input mode = true
is_input secret = true
is_input _ = false

abbrev pub is_register : Wire → Bool
is_register s = same s kept

abbrev pub label : Wire → (Wire → ℕ) → Bool
label mode e = false
label secret e = eqb (e mode) 1
label copy e = eqb (e mode) 1
label kept e = true

abbrev copying : Driver Wire
copying = record { target = copy; value = λ (e : Wire → ℕ). e secret }

abbrev pub example : System Wire Bool
example = record {
  signals = mode ∷ secret ∷ copy ∷ kept ∷ [];
  is_input = is_input;
  is_register = is_register;
  width = λ s. 1;
  processes = (λ (e : Wire → ℕ). put same copy (e secret) e) ∷ [];
  next = λ e s. e copy;
  label = label;
  flows = flows;
}

pub within : (s : Wire) → Contains example.signals s
within mode = (0, omega arith, refl)
within secret = (1, omega arith, refl)
within copy = (2, omega arith, refl)
within kept = (3, omega arith, refl)

-- what one element contains
pub only : {X : Type 0} (x y : X) → Contains (x ∷ []) y → x ≡ y
only x y at = ⊎_elim (λ e. e) (λ none. absurd (Contains-nil y none)) (Contains-cases x [] y at)

same_is : (s t : Wire) → IsTrue (same s t) → s ≡ t
same_is mode mode h = refl
same_is secret secret h = refl
same_is copy copy h = refl
same_is kept kept h = refl
same_is _ _ h = absurd (false≢true h)

is_same : (s : Wire) → same s s ≡ true
is_same mode = refl
is_same secret = refl
is_same copy = refl
is_same kept = refl

-- the copy alone is combinational
combinational_is : (s : Wire) → IsCombinational example s → copy ≡ s
combinational_is mode c = absurd (true≢false c.no_input)
combinational_is secret c = absurd (true≢false c.no_input)
combinational_is copy c = refl
combinational_is kept c = absurd (true≢false c.no_register)

register_is : (s : Wire) → IsTrue (is_register s) → kept ≡ s
register_is mode r = absurd (false≢true r)
register_is secret r = absurd (false≢true r)
register_is copy r = absurd (false≢true r)
register_is kept r = refl

one_target : OneTarget example same (copying ∷ [])
one_target = record {
  driver_of =
      λ process listed. (
        copying,
        Contains-head copying [],
        λ e s.
            ap (λ (p : (Wire → ℕ) → (Wire → ℕ)).
            p e s) (sym (only (λ (at : Wire → ℕ). put same copy (at secret) at) process listed)),
      );
  process_of =
      λ d among. (
        λ (e : Wire → ℕ). put same copy (e secret) e,
        Contains-head _ [],
        λ e s.
            ap (λ (b : Driver Wire). put same b.target (b.value e) e s) (only copying d among),
      );
}

copied : (e : Environment Wire) → IsStill example e → e copy ≡ e secret
copied e still =
    one_still_targets example same same_is is_same (copying ∷ []) one_target e still copying
    (Contains-head copying [])

abbrev uses : Environment Wire → Wire → List Wire
uses e mode = []
uses e secret = []
uses e copy = secret ∷ []
uses e kept = copy ∷ []

abbrev selectors : Wire → List Wire
selectors mode = []
selectors secret = mode ∷ []
selectors copy = mode ∷ []
selectors kept = []

abbrev depth : Wire → ℕ
depth mode = 0
depth secret = 0
depth copy = 1
depth kept = 0

flows_same : (a : Bool) → IsTrue (flows a a)
flows_same true = refl
flows_same false = refl

flows_up : (a : Bool) → IsTrue (flows a true)
flows_up true = refl
flows_up false = refl

flows_on : (a b c : Bool) → IsTrue (flows a b) → IsTrue (flows b c) → IsTrue (flows a c)
flows_on false b c first second = refl
flows_on true true c first second = second
flows_on true false c first second = absurd (false≢true first)

selected : (e f : Environment Wire) (s : Wire) →
    ((t : Wire) → Contains (selectors s) t → e t ≡ f t) → label s e ≡ label s f
selected e f mode agree = refl
selected e f secret agree = ap (λ n. eqb n 1) (agree mode (Contains-head mode []))
selected e f copy agree = ap (λ n. eqb n 1) (agree mode (Contains-head mode []))
selected e f kept agree = refl

selecting : (e : Environment Wire) (s t : Wire) → Contains (selectors s) t →
    IsTrue (flows (label t e) (label s e))
selecting e mode t at = absurd (Contains-nil t at)
selecting e secret t at =
    subst (λ r. IsTrue (flows (label r e) (label secret e))) (only mode t at) refl
selecting e copy t at = subst (λ r. IsTrue (flows (label r e) (label copy e))) (only mode t at) refl
selecting e kept t at = absurd (Contains-nil t at)

lower : (e : Environment Wire) (s t : Wire) → IsCombinational example s → Contains (uses e s) t →
    IsCombinational example t → depth t < depth s
lower e mode t c used d = absurd (Contains-nil t used)
lower e secret t c used d = absurd (Contains-nil t used)
lower e copy t c used d = absurd (true≢false (ap is_input (only secret t used) ∙ d.no_input))
lower e kept t c used d = absurd (true≢false c.no_register)

not_both : (s : Wire) → IsTrue (is_input s) → is_register s ≡ false
not_both mode input = refl
not_both secret input = refl
not_both copy input = refl
not_both kept input = absurd (false≢true input)

distinct : IsDistinct same (copy ∷ [])
unfolding IsDistinct
distinct = (tt, tt)

guarded : Guarded example
guarded = record {
  uses = uses;
  selectors = selectors;
  depth = depth;
  uses_within = λ e s t _ _. within t;
  selectors_within = λ s t _ _. within t;
  lower = lower;
  determined = λ e f s c _ _ e_still f_still agree.
      subst (λ r. ((t : Wire) → Contains (uses e r) t → e t ≡ f t) →
      e r ≡ f r) (combinational_is s c)
      (λ same_uses. copied e e_still ∙ same_uses secret (Contains-head secret [])
      ∙ sym (copied f f_still)) agree;
  determined_next = λ e f s _ r _ _ _ _ agree.
      subst (λ k. ((t : Wire) → Contains (uses e k) t → e t ≡ f t) → e copy ≡ f copy)
      (register_is s r) (λ same_uses. same_uses copy (Contains-head copy [])) agree;
  guarded = λ e s t c _ _ used.
      subst (λ r. Contains (uses e r) t → IsTrue (flows (label t e) (label r e)))
      (combinational_is s c)
      (λ at. subst (λ r. IsTrue (flows (label r e) (label copy e))) (only secret t at)
      (flows_same (label copy e))) used;
  guarded_next =
      λ e f s t _ r _ _ _ _ _ used.
      subst (λ k. IsTrue (flows (label t e) (label k f))) (register_is s r) (flows_up (label t e));
  selected = λ e f s _ agree. selected e f s agree;
  selecting = λ e s t _ _ _ at. selecting e s t at;
  transitive = flows_on;
}

ordered : Ordered example
ordered = record {
  same = same;
  same_is = same_is;
  is_same = is_same;
  drivers = copying ∷ [];
  still_targets =
      λ e _ still. one_still_targets example same same_is is_same (copying ∷ []) one_target e still;
  targets_still = λ e _. one_targets_still example same same_is is_same (copying ∷ []) one_target e;
  targets_differ = distinct;
  targets_combinational =
      λ d among. subst (λ (b : Driver Wire).
      IsCombinational example b.target) (only copying d among) (record {
        among = within copy;
        no_input = refl;
        no_register = refl;
      });
  driven = λ s c. subst (Contains (copy ∷ [])) (combinational_is s c) (Contains-head copy []);
  not_both = not_both;
  values_fit =
      λ d among e fits. subst (λ (b : Driver Wire).
      b.value e < 2 ^ 1) (only copying d among) (fits 1 secret (omega arith));
  next_fits = λ e fits k d lt _. fits 2 copy (omega arith);
  earlier =
      λ before after d is e f inputs _ _.
      subst (λ (b : Driver Wire).
      b.value e ≡ b.value f)
      (only copying d (subst (λ ds.
      Contains ds d) (sym is) (Contains-append_right before (d ∷ after) d (Contains-head d after))))
      (inputs secret refl);
  next_within = λ e f s _ _ agree. agree copy (within copy);
}

-- so both theorems speak of it
pub example_is_noninterferent : Noninterferent example
example_is_noninterferent = noninterference example guarded

pub example_has_one_trace : HasOneTrace example
example_has_one_trace = one_trace example ordered
