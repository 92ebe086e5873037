-- Marks that tell which literals stand in a list, and the places where they stand.
use Rattle.std.proofs.Common.{◌≡◌, ℕ, ◌+◌, ◌*◌, ◌<◌, Bool, true, false, not, cond, ℤ, pos, List, []}
use Rattle.std.proofs.Common.{◌∷◌, ◌++◌, refl, sym, ap, ◌∙◌, subst, ⊎_elim, length, take, get_or}
use Rattle.std.proofs.Common.{set, arith, length-set}
use Rattle.std.specs.Prelude.{count_by}
use Rattle.std.proofs.lemmas.Bool.{cases_order, false≢true}
use Rattle.std.proofs.lemmas.List.{get_or-set_same, get_or-set_other, get_or_append_left}
use Rattle.std.proofs.lemmas.List.{take-append-le, get_or_push, take_at, length_push}
use Rattle.std.proofs.lemmas.List.Sums.{sum_by-set}
use Rattle.sv_clause.specs.Literals.{stands}
use Rattle.sv_clause.proofs.Standing.{cases_int}
use Rattle.sv_solve.specs.Codes.{code_of, IsOf}
use Rattle.sv_solve.specs.Lists.{IsMarked}
use Rattle.sv_solve.proofs.CodeLaws.{code-below, code-inj}
use Rattle.sv_solve.proofs.Places.{place_of, stands_at, stands_push_new, stands_push_cases}
use Rattle.sv_solve.proofs.Places.{stands_push_other, stands_push_old}

pub marked_in : (literals : List ℤ) (marks : List Bool) (places : List ℕ) (variables : ℕ) (l : ℤ) →
    IsMarked literals marks places variables → IsOf variables l → code_of l < length marks
marked_in literals marks places variables l m h =
    let small : code_of l < 2 * variables + 2 = code-below variables l h in omega (arith, m.size)

-- the place that the table gives is one where the literal stands
pub placed_of : (literals : List ℤ) (marks : List Bool) (places : List ℕ) (variables : ℕ) (l : ℤ)
    → IsMarked literals marks places variables → stands l literals ≡ true
    → (get_or places (code_of l) 0 < length literals)
    × (get_or literals (get_or places (code_of l) 0) (pos 0) ≡ l)
placed_of literals marks places variables l m e =
    let p = place_of l literals e in
    let is : get_or places (code_of l) 0 ≡ p.0 =
    sym (ap (λ z. get_or places (code_of z) 0) p.2) ∙ m.placed p.0 p.1 in
    (subst (λ z. z < length literals) (sym is) p.1, ap (λ z. get_or literals z (pos 0)) is ∙ p.2)

-- each literal stands at its place
abbrev ArePlaced : List ℤ → List ℕ → Type 0
ArePlaced literals places =
    (i : ℕ) → i < length literals → get_or places (code_of (get_or literals i (pos 0))) 0 ≡ i

placed_push : (literals : List ℤ) (places : List ℕ) (l : ℤ) (k : ℕ) → ArePlaced literals places
    → stands l literals ≡ false → k ≡ code_of l → k < length places
    → ArePlaced (literals ++ l ∷ []) (set places k (length literals))
placed_push literals places l k old new at small i h =
    let size : length (literals ++ l ∷ []) ≡ length literals + 1 = length_push literals l in
    let now = set places k (length literals) in
    ⊎_elim
    (λ last. ap (λ z. get_or now (code_of z) 0) (get_or_push literals l (pos 0) i (sym last))
    ∙ ap (λ z. get_or now z 0) (sym at) ∙ get_or-set_same places k (length literals) 0 small
    ∙ sym last)
    (λ other. let below : i < length literals = ⊎_elim (λ lt. lt) (λ gt.
    absurd (omega arith)) other in
    let x = get_or literals i (pos 0) in
    ap (λ z. get_or now (code_of z) 0) (get_or_append_left literals (l ∷ []) (pos 0) i below)
    ∙ get_or-set_other places k (code_of x) (length literals) 0 (λ e.
    false≢true (sym new ∙ ap (λ z. stands z literals) (sym (code-inj x l (e ∙ at)))
    ∙ stands_at literals i below))
    ∙ old i below)
    (cases_order i (length literals))

placed_pop : (literals : List ℤ) (places : List ℕ) (l : ℤ) → ArePlaced (literals ++ l ∷ []) places →
    ArePlaced literals places
placed_pop literals places l old i below =
    let longer : length (literals ++ l ∷ []) ≡ length literals + 1 = length_push literals l in
    ap (λ z. get_or places (code_of z) 0)
    (sym (get_or_append_left literals (l ∷ []) (pos 0) i below)) ∙ old i (omega arith)

distinct_push : (literals : List ℤ) (l : ℤ)
    → ((i : ℕ) → i < length literals → stands (get_or literals i (pos 0)) (take i literals) ≡ false)
    → stands l literals ≡ false
    → (i : ℕ) → i < length (literals ++ l ∷ [])
    → stands (get_or (literals ++ l ∷ []) i (pos 0)) (take i (literals ++ l ∷ [])) ≡ false
distinct_push literals l old new i h =
    let size : length (literals ++ l ∷ []) ≡ length literals + 1 = length_push literals l in
    ⊎_elim
    (λ last. ap (λ z. stands z (take i (literals ++ l ∷ [])))
    (get_or_push literals l (pos 0) i (sym last))
    ∙ ap (stands l) (take_at literals (l ∷ []) i (sym last)) ∙ new)
    (λ other. let below : i < length literals = ⊎_elim (λ lt. lt) (λ gt.
    absurd (omega arith)) other in
    ap (λ z. stands z (take i (literals ++ l ∷ [])))
    (get_or_append_left literals (l ∷ []) (pos 0) i below)
    ∙ ap (stands (get_or literals i (pos 0))) (take-append-le i literals (l ∷ []) (omega arith))
    ∙ old i below)
    (cases_order i (length literals))

pub marked_push : (literals now : List ℤ) (marks : List Bool) (places : List ℕ) (variables : ℕ)
    (l : ℤ) (k place : ℕ) → IsMarked literals marks places variables → IsOf variables l
    → stands l literals ≡ false
    → now ≡ literals ++ l ∷ [] → k ≡ code_of l → place ≡ length literals
    → IsMarked now (set marks k true) (set places k place) variables
marked_push literals now marks places variables l k place m of new is at end =
    let there : code_of l < length marks = marked_in literals marks places variables l m of in
    let small : k < length marks = omega arith in
    let as_small : k < length places = omega (arith, m.as_many) in
    let was : get_or marks k false ≡ false =
    ap (λ z. get_or marks z false) at ∙ m.marked l there ∙ new in
    let P : List ℤ → Type 0 = λ z. IsMarked z (set marks k true) (set places k place) variables in
    subst P (sym is)
    (record {
      size = length-set marks k true ∙ m.size;
      as_many = length-set places k place ∙ m.as_many ∙ sym (length-set marks k true);
      marked = λ x h. ⊎_elim
          (λ same. ap (λ z. get_or (set marks k true) z false) (ap code_of same ∙ sym at)
          ∙ get_or-set_same marks k true false small
          ∙ sym (ap (λ z. stands z (literals ++ l ∷ [])) same ∙ stands_push_new l literals))
          (λ ne. get_or-set_other marks k (code_of x) true false (λ e. ne (code-inj x l (e ∙ at)))
          ∙ m.marked x (subst (λ z. code_of x < z) (length-set marks k true) h)
          ∙ sym (stands_push_other x l literals ne))
          (cases_int x l);
      within =
          λ x e. ⊎_elim (m.within x) (λ same.
          subst (IsOf variables) (sym same) of) (stands_push_cases x l literals e);
      distinct = distinct_push literals l m.distinct new;
      room =
          let counted : count_by not (set marks k true) + cond (not (get_or marks k false)) 1 0 ≡
          count_by not marks + 0 = sum_by-set (λ x.
          cond (not x) 1 0) marks k true false small in
          let one : count_by not (set marks k true) + 1 ≡ count_by not marks =
          ap (λ b. count_by not (set marks k true) + cond (not b) 1 0) (sym was) ∙ counted
          ∙ omega arith in
          let longer : length (literals ++ l ∷ []) ≡ length literals + 1 = length_push literals l in
          let whole : length (set marks k true) ≡ length marks = length-set marks k true in
          omega (arith, m.room);
      placed =
          subst (λ z. ArePlaced (literals ++ l ∷ []) (set places k z)) (sym end)
          (placed_push literals places l k m.placed new at as_small);
    })

-- the last literal of a list stands nowhere before
last_new : (literals before : List ℤ) (l : ℤ) → literals ≡ before ++ l ∷ [] →
    ((i : ℕ) → i < length literals → stands (get_or literals i (pos 0)) (take i literals) ≡ false) →
    stands l before ≡ false
last_new literals before l is distinct =
    let longer : length (before ++ l ∷ []) ≡ length before + 1 = length_push before l in
    let P : List ℤ → Type 0 =
    λ z. (i : ℕ) → i < length z → stands (get_or z i (pos 0)) (take i z) ≡ false in
    let d = subst P is distinct in
    sym (ap (λ z. stands z (take (length before) (before ++ l ∷ [])))
    (get_or_push before l (pos 0) (length before) refl)
    ∙ ap (stands l) (take_at before (l ∷ []) (length before) refl))
    ∙ d (length before) (omega arith)

distinct_pop : (literals : List ℤ) (l : ℤ)
    → ((i : ℕ) → i < length (literals ++ l ∷ [])
    → stands (get_or (literals ++ l ∷ []) i (pos 0)) (take i (literals ++ l ∷ [])) ≡ false)
    → (i : ℕ) → i < length literals → stands (get_or literals i (pos 0)) (take i literals) ≡ false
distinct_pop literals l d i below =
    let longer : length (literals ++ l ∷ []) ≡ length literals + 1 = length_push literals l in
    sym (ap (λ z. stands z (take i (literals ++ l ∷ [])))
    (get_or_append_left literals (l ∷ []) (pos 0) i below)
    ∙ ap (stands (get_or literals i (pos 0))) (take-append-le i literals (l ∷ []) (omega arith)))
    ∙ d i (omega arith)

pub marked_pop : (literals before : List ℤ) (marks : List Bool) (places : List ℕ) (variables : ℕ)
    (l : ℤ) (k : ℕ) → IsMarked literals marks places variables → literals ≡ before ++ l ∷ []
    → k ≡ code_of l
    → IsMarked before (set marks k false) places variables
marked_pop literals before marks places variables l k m is at =
    let new : stands l before ≡ false = last_new literals before l is m.distinct in
    let stood : stands l literals ≡ true = ap (stands l) is ∙ stands_push_new l before in
    let there : code_of l < length marks =
    marked_in literals marks places variables l m (m.within l stood) in
    let small : k < length marks = omega arith in
    let was : get_or marks k false ≡ true =
    ap (λ z. get_or marks z false) at ∙ m.marked l there ∙ stood in
    record {
      size = length-set marks k false ∙ m.size;
      as_many = m.as_many ∙ sym (length-set marks k false);
      marked = λ x h. ⊎_elim
          (λ same. ap (λ z. get_or (set marks k false) z false) (ap code_of same ∙ sym at)
          ∙ get_or-set_same marks k false false small
          ∙ sym (ap (λ z. stands z before) same ∙ new))
          (λ ne. get_or-set_other marks k (code_of x) false false (λ e. ne (code-inj x l (e ∙ at)))
          ∙ m.marked x (subst (λ z. code_of x < z) (length-set marks k false) h)
          ∙ ap (stands x) is ∙ stands_push_other x l before ne)
          (cases_int x l);
      within = λ x e. m.within x (ap (stands x) is ∙ stands_push_old x l before e);
      distinct =
          distinct_pop before l
          (subst (λ z. (i : ℕ) → i < length z → stands (get_or z i (pos 0)) (take i z) ≡ false) is
          m.distinct);
      room =
          let counted : count_by not (set marks k false) + cond (not (get_or marks k false)) 1 0 ≡
          count_by not marks + 1 = sum_by-set (λ x.
          cond (not x) 1 0) marks k false false small in
          let one : count_by not (set marks k false) ≡ count_by not marks + 1 =
          omega (
            arith,
            ap (λ b. count_by not (set marks k false) + cond (not b) 1 0) (sym was)
                ∙ counted,
          ) in
          let longer : length literals ≡ length before + 1 = ap length is ∙ length_push before l in
          let whole : length (set marks k false) ≡ length marks = length-set marks k false in
          omega (arith, m.room);
      placed = placed_pop before places l (subst (λ z. ArePlaced z places) is m.placed);
    }
