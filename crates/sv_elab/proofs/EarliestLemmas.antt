-- The broken question that stands first is the one that a walk over the questions in textual order
-- ends at.
use Rattle.std.proofs.Common.{◌≡◌, Bool, true, false, List, [], ◌∷◌, ◌++◌, Option, Some, None, refl}
use Rattle.std.proofs.Common.{sym, ap, ◌∙◌, arith}
use Rattle.std.specs.Prelude.{if◌then◌else◌, Result, Ok, Err}
use Rattle.std.proofs.lemmas.Bool.Decides.{nat_tests}
use Rattle.sv_num.specs.declared.faults.Place.{Place}
use Rattle.sv_elab_rules.specs.Walks.{WalkStep, ask, each, ◌>>=◌}
use Rattle.sv_elab_rules.specs.Lattices.{Question, stands_before, placed, in_textual_order, answered}
use Rattle.sv_elab.specs.Earliest.{broken_step, earlier, earliest}

-- ---- the order of places

pub before_trans : (a b c : Place) → stands_before a b ≡ true → stands_before b c ≡ true →
    stands_before a c ≡ true
before_trans a b c h k = grind (arith, nat_tests)

pub not_before_trans : (a b c : Place) → stands_before a b ≡ false → stands_before b c ≡ false →
    stands_before a c ≡ false
not_before_trans a b c h k = grind (arith, nat_tests)

pub before_one_way : (a b : Place) → stands_before a b ≡ true → stands_before b a ≡ false
before_one_way a b h = grind (arith, nat_tests)

-- ---- the first of three

abbrev pub pick : {X : Type 0} (before : X → X → Bool) → X → X → X
pick before a b = if before b a then b else a

module _ {X : Type 0} (before : X → X → Bool)
    (trans : (a b c : X) → before a b ≡ true → before b c ≡ true → before a c ≡ true)
    (not_trans : (a b c : X) → before a b ≡ false → before b c ≡ false → before a c ≡ false)
    (a b c : X) where
  picked : (t u v : Bool) → before b a ≡ t → before c b ≡ u → before c a ≡ v
      → pick before (pick before a b) c ≡ pick before a (pick before b c)
  picked true true true f g h = rw (f, g, h) refl
  picked true true false f g h = absurd (cc (trans c b a g f))
  picked true false v f g h = rw (f, g, f) refl
  picked false true true f g h = rw (f, g, h) refl
  picked false true false f g h = rw (f, g, h) refl
  picked false false true f g h = absurd (cc (not_trans c b a g f))
  picked false false false f g h = rw (f, g, h, f) refl

  pub pick_assoc : pick before (pick before a b) c ≡ pick before a (pick before b c)
  pick_assoc = picked (before b a) (before c b) (before c a) refl refl refl

abbrev pub step_before : WalkStep → WalkStep → Bool
step_before a b = stands_before a.place b.place

pub earlier_assoc : (a b c : Option WalkStep) → earlier (earlier a b) c ≡ earlier a (earlier b c)
earlier_assoc None b c = refl
earlier_assoc (Some a) None c = refl
earlier_assoc (Some a) (Some b) None = refl
earlier_assoc (Some a) (Some b) (Some c) =
    ap Some (pick_assoc step_before (λ x y z. before_trans x.place y.place z.place)
    (λ x y z. not_before_trans x.place y.place z.place) a b c)

-- ---- where a walk over questions ends

-- the first broken step
abbrev pub first_broken : List Question → Option WalkStep
first_broken [] = None
first_broken (q ∷ qs) = if q.holds then first_broken qs else Some q.step

abbrev pub end_at : Option WalkStep → Result (Unit {0}) WalkStep
end_at None = Ok tt
end_at (Some s) = Err s

asked_one : (b : Bool) (s : WalkStep) (qs : List Question)
    → (each answered qs).end ≡ end_at (first_broken qs)
    → (ask b s >>= λ _. each answered qs).end ≡ end_at (if b then first_broken qs else Some s)
unfolding each answered
asked_one true s qs rest = rest
asked_one false s qs rest = refl

pub asked_end : (qs : List Question) → (each answered qs).end ≡ end_at (first_broken qs)
unfolding each answered
asked_end [] = refl
asked_end (q ∷ qs) = asked_one q.holds q.step qs (asked_end qs)

-- ---- sorted questions

-- no question stands before the place
abbrev pub NoneBefore : Place → List Question → Type 0
NoneBefore p [] = Unit {0}
NoneBefore p (q ∷ qs) = (stands_before q.step.place p ≡ false) × NoneBefore p qs

abbrev pub IsOrdered : List Question → Type 0
IsOrdered [] = Unit {0}
IsOrdered (q ∷ qs) = NoneBefore q.step.place qs × IsOrdered qs

none_before_on : (p r : Place) (qs : List Question) → stands_before r p ≡ false → NoneBefore r qs →
    NoneBefore p qs
none_before_on p r [] h n = tt
none_before_on p r (q ∷ qs) h n =
    (not_before_trans q.step.place r p n.0 h, none_before_on p r qs h n.1)

placed_none : (p : Place) (q : Question) (qs : List Question) → stands_before q.step.place p ≡ false
    → NoneBefore p qs
    → NoneBefore p (placed q qs)
placed_none p q [] h n = (h, tt)
placed_none p q (r ∷ rs) h n =
    by (stands_before r.step.place q.step.place) (placed_none p q rs h n.1)
  where
    by : (b : Bool) → NoneBefore p (placed q rs) →
        NoneBefore p (if b then r ∷ placed q rs else q ∷ r ∷ rs)
    by true rest = (n.0, rest)
    by false rest = (h, n)

placed_ordered : (q : Question) (qs : List Question) → IsOrdered qs → IsOrdered (placed q qs)
placed_ordered q [] o = (tt, tt)
placed_ordered q (r ∷ rs) o =
    by (stands_before r.step.place q.step.place) refl (placed_ordered q rs o.1)
  where
    by : (b : Bool) → stands_before r.step.place q.step.place ≡ b → IsOrdered (placed q rs)
        → IsOrdered (if b then r ∷ placed q rs else q ∷ r ∷ rs)
    by true e rest =
        (placed_none r.step.place q rs (before_one_way r.step.place q.step.place e) o.0, rest)
    by false e rest = ((e, none_before_on q.step.place r.step.place rs e o.0), o)

ordered : (qs : List Question) → IsOrdered (in_textual_order qs)
ordered [] = tt
ordered (q ∷ qs) = placed_ordered q (in_textual_order qs) (ordered qs)

-- what is broken among questions none of which stands before a step's place is not picked before
-- that step
kept_first : (s : WalkStep) (qs : List Question) → NoneBefore s.place qs →
    earlier (Some s) (first_broken qs) ≡ Some s
kept_first s [] n = refl
kept_first s (q ∷ qs) n = by q.holds (kept_first s qs n.1)
  where
    by : (b : Bool) → earlier (Some s) (first_broken qs) ≡ Some s
        → earlier (Some s) (if b then first_broken qs else Some q.step) ≡ Some s
    by true rest = rest
    by false rest = ap (λ (t : Bool). Some (if t then q.step else s)) n.0

placed_broken : (q : Question) (qs : List Question) → IsOrdered qs
    → first_broken (placed q qs) ≡ earlier (broken_step q) (first_broken qs)
placed_broken q [] o = by q.holds
  where
    by : (b : Bool) → (if b then None else Some q.step) ≡ earlier (if b then None
        else Some q.step) None
    by true = refl
    by false = refl
placed_broken q (r ∷ rs) o =
    by (stands_before r.step.place q.step.place) refl (placed_broken q rs o.1)
  where
    -- r stands before q
    ahead : (h k : Bool) → stands_before r.step.place q.step.place ≡ true
        → (first_broken (placed q rs) ≡ earlier (if h then None else Some q.step) (first_broken rs))
        → (if k then first_broken (placed q rs) else Some r.step)
        ≡ earlier (if h then None else Some q.step) (if k then first_broken rs else Some r.step)
    ahead h true e rest = rest
    ahead true false e rest = refl
    ahead false false e rest = sym (ap (λ (t : Bool). Some (if t then r.step else q.step)) e)

    -- it does not
    behind : (h : Bool) → NoneBefore q.step.place (r ∷ rs)
        → (if h then first_broken (r ∷ rs) else Some q.step)
        ≡ earlier (if h then None else Some q.step) (first_broken (r ∷ rs))
    behind true n = refl
    behind false n = sym (kept_first q.step (r ∷ rs) n)

    by : (b : Bool) → stands_before r.step.place q.step.place ≡ b
        → first_broken (placed q rs) ≡ earlier (broken_step q) (first_broken rs)
        → first_broken (if b then r ∷ placed q rs else q ∷ r ∷ rs) ≡
        earlier (broken_step q) (first_broken (r ∷ rs))
    by true e rest = ahead q.holds r.holds e rest
    by false e rest = behind q.holds (e, none_before_on q.step.place r.step.place rs e o.0)

pub in_order_broken : (qs : List Question) → first_broken (in_textual_order qs) ≡ earliest qs
in_order_broken [] = refl
in_order_broken (q ∷ qs) =
    placed_broken q (in_textual_order qs) (ordered qs)
    ∙ ap (earlier (broken_step q)) (in_order_broken qs)

-- a walk over the questions in textual order ends at the earliest broken one
pub ordered_end : (qs : List Question) →
    (each answered (in_textual_order qs)).end ≡ end_at (earliest qs)
ordered_end qs = asked_end (in_textual_order qs) ∙ ap end_at (in_order_broken qs)

-- some questions, and then others
pub earliest_append : (xs ys : List Question) →
    earliest (xs ++ ys) ≡ earlier (earliest xs) (earliest ys)
earliest_append [] ys = refl
earliest_append (q ∷ xs) ys =
    ap (earlier (broken_step q)) (earliest_append xs ys)
    ∙ sym (earlier_assoc (broken_step q) (earliest xs) (earliest ys))
