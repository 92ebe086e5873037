-- The end of a stimulus leaves what began before it.
use Rattle.std.proofs.Common.{◌≡◌, ℕ, true, Bool, List, [], ◌∷◌, ◌++◌, length, sym, ap, subst, ◌∙◌}
use Rattle.std.proofs.Common.{append-nil, ⊎_elim}
use Rattle.std.specs.Prelude.{IsTrue, replicate, fold}
use Rattle.std.specs.List.{list_any}
use Rattle.std.specs.Str.{bytes_eq}
use Rattle.std.proofs.lemmas.Bool.{false≢true, or_left, or_right}
use Rattle.sv_flat.proofs.LeastSets.{or_cases}
use Rattle.sv_trace.specs.Reading.{Reading, HasRead}
use Rattle.sv_trace.specs.Stimulus.{read_front, read_whole, has_header, start_of, started}
use Rattle.sv_sim_run.proofs.ReadFronts.{Grows, front_of_whole, same_starts}

any_more : (test : List ℕ → Bool) (xs ys : List (List ℕ)) → IsTrue (list_any test xs) →
    IsTrue (list_any test (xs ++ ys))
any_more test [] ys some = absurd (false≢true some)
any_more test (x ∷ xs) ys some = ⊎_elim
    (λ here. or_left (test x) (list_any test (xs ++ ys)) here)
    (λ later. or_right (test x) (list_any test (xs ++ ys)) (any_more test xs ys later))
    (or_cases (test x) (list_any test xs) some)

-- once the header was read, the start stays
pub whole_keeps : (bytes : List ℕ) (taken then : List (List ℕ)) (old new : Reading)
    → new.form ≡ old.form
    → HasRead (read_front old.form bytes) taken old
    → HasRead (read_whole new.form bytes) then new
    → old.said.begun ≡ true
    → (new.said.start ≡ old.said.start) × (new.said.begun ≡ true)
whole_keeps bytes taken then old new form before has begun =
    let after = subst (λ f. HasRead (read_whole f bytes) then new) form has in
    let right = (read_front old.form bytes).right in
    let all = (read_whole old.form bytes).right in
    let grows = subst (λ bs. Grows (read_front old.form bytes) (read_whole old.form bs))
    (append-nil bytes) (front_of_whole old.form bytes []) in
    let more = grows.0 in
    let header : has_header old.form right ≡ true = sym before.lines.begun ∙ begun in
    let fewer = before.lines.cycling header in (
      after.lines.start
          ∙ ap (λ f. start_of f all) form
          ∙ ap (start_of old.form) grows.1
          ∙ ap (fold (started old.form) (replicate (length old.form.registers) 0))
          (same_starts right more fewer)
          ∙ sym before.lines.start,
      after.lines.begun
          ∙ ap (λ f. has_header f all) form
          ∙ ap (has_header old.form) grows.1
          ∙ any_more (λ line. bytes_eq line old.form.header) right more header,
    )
