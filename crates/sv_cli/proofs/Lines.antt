-- Parts of a text that are put one after the other.
use Rattle.std.proofs.Common.{◌≡◌, ℕ, List, [], ◌++◌, refl, sym, ap, ◌∙◌, append-nil, append_assoc}
use Rattle.std.specs.Prelude.{Result, Ok, Err, OnOk, OnErr}
use Rattle.sv_io.specs.Sink.{WritesFront}
use Rattle.sv_cli.specs.Prepared.{LeavesOf}

-- what follows of a success or an error follows of an answer that is one
pub on_success : {T E : Type 0} (r : Result T E) (P Q : Type 0) → (P → Q) → OnOk r P → OnOk r Q
on_success (Ok x) P Q f p = f p
on_success (Err e) P Q f p = tt

pub on_failure : {T E : Type 0} (r : Result T E) (P Q : Type 0) → (P → Q) → OnErr r P → OnErr r Q
on_failure (Ok x) P Q f p = tt
on_failure (Err e) P Q f p = f p

-- what holds anyway holds of an error
pub on_error : {T E : Type 0} {P : Type 0} (r : Result T E) → P → OnErr r P
on_error (Ok x) p = tt
on_error (Err e) p = p

-- all of a text is left before it is put
pub none_put : (old text : List ℕ) → LeavesOf old text text old
none_put old text = record { front = []; whole = refl; accepted = sym (append-nil old) }

-- one part after some
pub then_put : (old text left rest mid new : List ℕ) → LeavesOf old text left mid
    → LeavesOf mid left rest new → LeavesOf old text rest new
then_put old text left rest mid new first second = record {
  front = first.front ++ second.front;
  whole =
      first.whole
      ∙ ap (λ x. first.front ++ x) second.whole
      ∙ sym (append_assoc first.front second.front rest);
  accepted =
      second.accepted
      ∙ ap (λ x. x ++ second.front) first.accepted
      ∙ append_assoc old first.front second.front;
}

-- a part that was put whole
pub part_put : (old text part left new : List ℕ) → text ≡ part ++ left → new ≡ old ++ part
    → LeavesOf old text left new
part_put old text part left new whole accepted =
    record { front = part; whole = whole; accepted = accepted }

-- the front of a part is one of the text
pub front_of : (old text part left new : List ℕ) → text ≡ part ++ left → WritesFront old part new
    → WritesFront old text new
front_of old text part left new whole w = record {
  front = w.front;
  rest = w.rest ++ left;
  whole = whole ∙ ap (λ x. x ++ left) w.whole ∙ append_assoc w.front w.rest left;
  accepted = w.accepted;
}

-- a front of what is left, after some parts
pub front_after : (old text left mid new : List ℕ) → LeavesOf old text left mid
    → WritesFront mid left new → WritesFront old text new
front_after old text left mid new so w = record {
  front = so.front ++ w.front;
  rest = w.rest;
  whole =
      so.whole
      ∙ ap (λ x. so.front ++ x) w.whole
      ∙ sym (append_assoc so.front w.front w.rest);
  accepted =
      w.accepted
      ∙ ap (λ x. x ++ w.front) so.accepted
      ∙ append_assoc old so.front w.front;
}

-- all that is left, after some parts
pub all_put : (old text left mid new : List ℕ) → LeavesOf old text left mid
    → new ≡ mid ++ left → new ≡ old ++ text
all_put old text left mid new so accepted =
    accepted
    ∙ ap (λ x. x ++ left) so.accepted
    ∙ append_assoc old so.front left
    ∙ ap (λ x. old ++ x) (sym so.whole)
