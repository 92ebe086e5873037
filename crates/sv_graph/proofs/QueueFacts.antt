-- Signals that go into an order.
use Rattle.std.proofs.Common.{◌≡◌, ◌≢◌, ℕ, ◌+◌, ◌-◌, ◌<◌, Bool, true, false, cond}
use Rattle.std.proofs.Common.{◌||◌, ◌==◌, List, [], ◌∷◌, ◌++◌, length}
use Rattle.std.proofs.Common.{get_or, ⊎_elim, refl, sym, ap, ap₂, subst, ◌∙◌, arith, append_assoc}
use Rattle.std.proofs.Common.{get_or-set_same, get_or-set_other}
use Rattle.std.specs.Prelude.{IsFalse, filter}
use Rattle.std.proofs.lemmas.Bool.{false≢true, eqb-true, eq-eqb}
use Rattle.std.proofs.lemmas.List.{length-set}
use Rattle.std.proofs.lemmas.List.{get_or-map}
use Rattle.std.proofs.lemmas.List.Elements.{filter-append}
use Rattle.sv_flat.specs.Sets.{holds}
use Rattle.sv_flat.specs.declared.signals.SigId.{SigId}
use Rattle.sv_flat.proofs.LeastSets.{either_way}
use Rattle.sv_graph.specs.declared.queues.Queue.{Queue}
use Rattle.sv_graph.specs.Numbers.{numbers}
use Rattle.sv_graph.specs.Queues.{ordered, open_at, SettlesOne, Settles}
use Rattle.sv_graph.proofs.Differing.{holds-append}

pub number_at : (signals : List SigId) (i : ℕ) (d : SigId) → i < length signals →
    get_or (numbers signals) i 0 ≡ (get_or signals i d).0
number_at signals i d inside = get_or-map (λ (s : SigId). s.0) signals i d 0 inside

pub differs : (s t : ℕ) → IsFalse (s == t) → t ≢ s
differs s t h e = false≢true (sym h ∙ eq-eqb s t (sym e))

pub held_last : (front : List ℕ) (x : ℕ) → holds (front ++ x ∷ []) x ≡ true
held_last front x =
    holds-append front (x ∷ []) x
    ∙ ap (λ b. holds front x || (b || false)) (eq-eqb x x refl)
    ∙ or_all (holds front x)
  where
    or_all : (b : Bool) → (b || (true || false)) ≡ true
    or_all true = refl
    or_all false = refl

pub held_before : (front : List ℕ) (x s : ℕ) → IsFalse (x == s) →
    holds (front ++ x ∷ []) s ≡ holds front s
held_before front x s other =
    holds-append front (x ∷ []) s
    ∙ ap (λ b. holds front s || (b || false)) other
    ∙ or_nothing (holds front s)
  where
    or_nothing : (b : Bool) → (b || (false || false)) ≡ b
    or_nothing true = refl
    or_nothing false = refl

pub still_open : (old now : Queue) (front : List ℕ) (x : ℕ) → Settles old now front →
    IsFalse (holds front x) → open_at now x ≡ open_at old x
still_open old now front x so_far out =
    let is = so_far.open_is x ∙ ap (λ b. open_at old x - cond b 1 0) out in omega arith

pub settle_more : (old now next : Queue) (front : List ℕ) (x : ℕ) → Settles old now front
    → SettlesOne now next x → IsFalse (holds front x) → x < length now.counts.items
    → Settles old next (front ++ x ∷ [])
settle_more old now next front x so_far one out inside =
    let v = open_at now x - 1 in
    let same = still_open old now front x so_far out in record {
      count = ap length one.open_is ∙ length-set now.counts.items x v ∙ so_far.count;
      open_is = λ s. ⊎_elim
          (λ here.
          subst (λ z. open_at next z ≡ open_at old z - cond (holds (front ++ x ∷ []) z) 1 0)
          (eqb-true x s here)
          (ap (λ cs. get_or cs x 0) one.open_is
          ∙ get_or-set_same now.counts.items x v 0 inside
          ∙ ap (λ k. k - 1) same
          ∙ sym (ap (λ b. open_at old x - cond b 1 0) (held_last front x))))
          (λ other.
          ap (λ cs. get_or cs s 0) one.open_is
          ∙ get_or-set_other now.counts.items x s v 0 (differs x s other)
          ∙ so_far.open_is s
          ∙ sym (ap (λ b. open_at old s - cond b 1 0) (held_before front x s other)))
          (either_way (x == s));
      order_is =
          one.order_is
          ∙ ap₂ (λ xs k. xs ++ cond (k == 1) (x ∷ []) []) so_far.order_is same
          ∙ append_assoc (ordered old) (filter (λ s. open_at old s == 1) front)
          (cond (open_at old x == 1) (x ∷ []) [])
          ∙ ap (λ ys. ordered old ++ ys)
          (sym (filter-append (λ s. open_at old s == 1) front (x ∷ [])));
    }
