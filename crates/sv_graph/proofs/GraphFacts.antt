-- Graphs over signals.
use Rattle.std.proofs.Common.{◌≡◌, ⊎_elim, ℕ, zero, suc, ◌-◌, ◌<◌, Bool, true, false}
use Rattle.std.proofs.Common.{cond, not, ◌&&◌, ◌||◌, Option, Some, None, Vec, Global, ◌==◌, List}
use Rattle.std.proofs.Common.{[], ◌∷◌, ◌++◌, length, map, get_or, set, refl, sym, ap, subst, ◌∙◌}
use Rattle.std.proofs.Common.{arith, get_or-set_same, get_or-set_other}
use Rattle.std.specs.Prelude.{IsTrue, IsFalse, Contains, slice_get, option_map, filter}
use Rattle.std.specs.List.{AllByRecursion, range_with_len}
use Rattle.std.proofs.lemmas.Bool.{false≢true, eqb-true, eq-eqb, or_left}
use Rattle.std.proofs.lemmas.List.{length_push}
use Rattle.std.proofs.lemmas.List.{append-nil, map-set, get_or-map, length-map}
use Rattle.sv_flat.proofs.LeastSets.{either_way, holds-from_Contains, Contains-from_holds}
use Rattle.sv_flat.proofs.LeastSets.{in_those, those_below, those_pass}
use Rattle.sv_system.proofs.Lists.{Contains-head, Contains-later}
use Rattle.sv_flat.specs.Sets.{holds}
use Rattle.sv_flat.specs.declared.signals.SigId.{SigId}
use Rattle.sv_graph.specs.Numbers.{numbers}
use Rattle.sv_graph.specs.declared.graphs.Graph.{Graph}
use Rattle.sv_graph.specs.Graphs.{row, size, has_edge, AddsEdge, AddsOnce}
use Rattle.sv_graph.specs.Graphs.{IsWhole}
use Rattle.sv_graph.specs.Graphs.{ends_in, is_last}
use Rattle.sv_graph.proofs.MarkFacts.{any_append, or_no, or_yes, or_three}
use Rattle.sv_graph.proofs.BitFacts.{same_answer}
use Rattle.std.proofs.Common.{◌+◌}
use Rattle.std.specs.List.{enumerate_from, AllWithin}
use Rattle.std.proofs.lemmas.List.FromFn.{length-enumerate_from, get_or-enumerate_from}

-- ---- rows

module _ {X : Type 0} (f : X → List ℕ) where
  -- no row has edges
  pub empty_rows : (xs : List X) → AllByRecursion (λ x. f x ≡ []) xs
      → (a : ℕ) → get_or (map f xs) a [] ≡ []
  empty_rows [] all a = refl
  empty_rows (x ∷ xs) all zero = all.0
  empty_rows (x ∷ xs) all (suc a) = empty_rows xs all.1 a

  -- one more number in a row
  pub row_more : (xs : List X) (s to : ℕ) (v d : X) → s < length xs
      → f v ≡ f (get_or xs s d) ++ to ∷ []
      → (a : ℕ) → get_or (map f (set xs s v)) a [] ≡
      get_or (map f xs) a [] ++ cond (s == a) (to ∷ []) []
  row_more xs s to v d inside is a = ⊎_elim
      (λ same. subst (λ z.
      get_or (map f (set xs s v)) z [] ≡ get_or (map f xs) z []
      ++ cond (s == z) (to ∷ []) []) (eqb-true s a same)
      (ap (λ rs. get_or rs s []) (map-set f xs s v)
      ∙ get_or-set_same (map f xs) s (f v) [] (rw length-map inside)
      ∙ is
      ∙ ap (λ r. r ++ to ∷ []) (sym (get_or-map f xs s d [] inside))
      ∙ ap (λ b. get_or (map f xs) s [] ++ cond b (to ∷ []) []) (sym (eq-eqb s s refl))))
      (λ other. ap (λ rs. get_or rs a []) (map-set f xs s v)
      ∙ get_or-set_other (map f xs) s a (f v) [] (λ e. false≢true (sym other ∙ eq-eqb s a (sym e)))
      ∙ sym (append-nil (get_or (map f xs) a []))
      ∙ ap (λ b. get_or (map f xs) a [] ++ cond b (to ∷ []) []) (sym other))
      (either_way (s == a))

-- ---- edges

-- those so far, and those that are left
abbrev pub EdgesSoFar : (old now all left : ℕ → ℕ → Bool) → Type 0
EdgesSoFar old now all left = (a b : ℕ) → (now a b || left a b) ≡ (old a b || all a b)

pub edges_more : (old now next all left this rest : ℕ → ℕ → Bool)
    → ((a b : ℕ) → left a b ≡ (this a b || rest a b))
    → ((a b : ℕ) → next a b ≡ (now a b || this a b)) → EdgesSoFar old now all left
    → EdgesSoFar old next all rest
edges_more old now next all left this rest splits gains so_far a b =
    ap (λ t. t || rest a b) (gains a b)
    ∙ or_three (now a b) (this a b) (rest a b)
    ∙ ap (λ t. now a b || t) (sym (splits a b))
    ∙ so_far a b

pub edges_end : (old now all left : ℕ → ℕ → Bool) → ((a b : ℕ) → left a b ≡ false)
    → EdgesSoFar old now all left → (a b : ℕ)
    → now a b ≡ (old a b || all a b)
edges_end old now all left none so_far a b =
    sym (or_no (now a b) (left a b) (none a b)) ∙ so_far a b

pub no_edges : (graph : Graph) → ((a : ℕ) → row graph a ≡ []) → (a b : ℕ) →
    has_edge graph a b ≡ false
no_edges graph none a b = ap (λ r. holds r b) (none a)

pub empty_is_whole : (graph : Graph) → ((a : ℕ) → row graph a ≡ []) → IsWhole graph
empty_is_whole graph none a b h = absurd (false≢true (sym (no_edges graph none a b) ∙ h))

-- ---- edges once

none_is_no_some : (m : ℕ) → None ≡ Some m → ⊥
none_is_no_some m e = cc

same_some : (x m : ℕ) → Some x ≡ Some m → x ≡ m
same_some x m e = cc

ends_in-at : (xs : List ℕ) (k : ℕ) → ends_in (xs ++ k ∷ []) k ≡ true
ends_in-at xs k =
    let size : length (xs ++ k ∷ []) - 1 ≡ length xs = (let s = length_push xs k in omega arith) in
    ap (λ o. is_last o k) (ap (slice_get (xs ++ k ∷ [])) size ∙ last_got xs k) ∙ eq-eqb k k refl
  where
    last_got : (xs : List ℕ) (k : ℕ) → slice_get (xs ++ k ∷ []) (length xs) ≡ Some k
    last_got [] k = refl
    last_got (x ∷ xs) k = last_got xs k

got_in : (xs : List ℕ) (i : ℕ) (m : ℕ) → slice_get xs i ≡ Some m → Contains xs m
got_in [] i m e = absurd (none_is_no_some m e)
got_in (x ∷ xs) zero m e = subst (Contains (x ∷ xs)) (same_some x m e) (Contains-head x xs)
got_in (x ∷ xs) (suc i) m e = Contains-later x xs m (got_in xs i m e)

not_last : (xs : List ℕ) (k : ℕ) → ((m : ℕ) → Contains xs m → m < k) → (o : Option ℕ) →
    slice_get xs (length xs - 1) ≡ o → IsFalse (is_last o k)
not_last xs k small None is = refl
not_last xs k small (Some m) is =
    let lower = small m (got_in xs (length xs - 1) m is) in ⊎_elim
    (λ e. let same = eqb-true m k e in absurd (omega arith))
    (λ f. f)
    (either_way (m == k))

pub not_ended : (xs : List ℕ) (k : ℕ) → ((m : ℕ) → Contains xs m → m < k) → IsFalse (ends_in xs k)
not_ended xs k small = not_last xs k small (slice_get xs (length xs - 1)) refl

module _ (old now next : Graph) (done : List ℕ) (from to : ℕ) where
  once : (b c : Bool) (xs : List ℕ) → ((m : ℕ) → Contains xs m → m < to) → IsTrue c
      → (xs ++ cond b (to ∷ []) []) ++ cond (c && not (ends_in (xs ++ cond b (to ∷ []) []) to))
      (to ∷ []) [] ≡ xs ++ to ∷ []
  once true true xs small h =
      ap (λ t. (xs ++ to ∷ []) ++ cond (not t) (to ∷ []) []) (ends_in-at xs to)
      ∙ append-nil (xs ++ to ∷ [])
  once false true xs small h =
      ap (λ ys. ys ++ cond (not (ends_in ys to)) (to ∷ []) []) (append-nil xs)
      ∙ ap (λ t. xs ++ cond (not t) (to ∷ []) []) (not_ended xs to small)
  once b false xs small h = absurd (false≢true h)

  pub source_more : ((a b : ℕ) → IsTrue (has_edge old a b) → b < to)
      → ((a : ℕ) → row now a ≡ row old a ++ cond (holds done a) (to ∷ []) [])
      → AddsOnce now next from to → (a : ℕ)
      → row next a ≡ row old a ++ cond (holds (done ++ from ∷ []) a) (to ∷ []) []
  source_more small so_far adds a = ⊎_elim
      (λ same.
      adds a ∙ ap (λ r. r ++ cond ((from == a) && not (ends_in r to)) (to ∷ []) []) (so_far a)
      ∙ once (holds done a) (from == a) (row old a) (λ m at.
      small a m (holds-from_Contains (row old a) m at)) same
      ∙ ap (λ b. row old a ++ cond b (to ∷ []) [])
      (sym (any_append (λ m. m == a) done (from ∷ [])
      ∙ or_yes (holds done a) ((from == a) || false) (or_left (from == a) false same))))
      (λ other.
      adds a ∙ ap (λ t. row now a ++ cond (t && not (ends_in (row now a) to)) (to ∷ []) []) other
      ∙ append-nil (row now a) ∙ so_far a
      ∙ ap (λ b. row old a ++ cond b (to ∷ []) [])
      (sym (any_append (λ m. m == a) done (from ∷ [])
      ∙ or_no (holds done a) ((from == a) || false) (or_no (from == a) false refl ∙ other))))
      (either_way (from == a))

-- ---- edges turned round

module _ (edges : ℕ → ℕ → Bool) (turned : Graph) (n : ℕ)
    (is : (b : ℕ) → row turned b ≡ filter (λ a. edges a b) (range_with_len 0 n)) where
  pub turned_below : (a b : ℕ) → IsTrue (has_edge turned a b) → b < n
  turned_below a b h =
      those_below n (λ z. edges z a) b
      (Contains-from_holds (filter (λ z. edges z a) (range_with_len 0 n)) b
      (ap (λ r. holds r b) (sym (is a)) ∙ h))

  pub turned_has : (a b : ℕ) → a < n → has_edge turned b a ≡ edges a b
  turned_has a b below = same_answer (has_edge turned b a) (edges a b)
      (λ h. those_pass n (λ z. edges z b) a
      (Contains-from_holds (filter (λ z. edges z b) (range_with_len 0 n)) a
      (ap (λ r. holds r a) (sym (is b)) ∙ h)))
      (λ h. ap (λ r. holds r a) (is b)
      ∙ holds-from_Contains (filter (λ z. edges z b) (range_with_len 0 n)) a
      (in_those n (λ z. edges z b) a below h))

  -- all edges, where they lead from these signals
  pub turned_edge : ((a b : ℕ) → IsTrue (edges a b) → a < n) → (a b : ℕ) →
      has_edge turned b a ≡ edges a b
  turned_edge inside a b = same_answer (has_edge turned b a) (edges a b)
      (λ h. sym (turned_has a b (turned_below b a h)) ∙ h)
      (λ h. turned_has a b (inside a b h) ∙ h)

  pub turned_whole : size turned ≡ n → IsWhole turned
  turned_whole same b a h = subst (λ m. a < m) (sym same) (turned_below b a h)

-- ---- an edge once

module _ (old new : Graph) (from to : ℕ) where
  pub once_ended : IsTrue (ends_in (row old from) to) → AddsOnce old old from to
  once_ended h a = ⊎_elim
      (λ same. sym (append-nil (row old a)) ∙ ap (λ b. row old a ++ cond b (to ∷ []) [])
      (sym (ap (λ t. t && not (ends_in (row old a) to)) same
      ∙ ap (λ z. not (ends_in (row old z) to)) (sym (eqb-true from a same)) ∙ ap not h)))
      (λ other. sym (append-nil (row old a))
      ∙ ap (λ b. row old a ++ cond b (to ∷ []) [])
      (sym (ap (λ t. t && not (ends_in (row old a) to)) other)))
      (either_way (from == a))

  pub once_added : IsFalse (ends_in (row old from) to) → AddsEdge old new from to →
      AddsOnce old new from to
  once_added h adds a = adds a ∙ ap (λ b. row old a ++ cond b (to ∷ []) []) (⊎_elim
      (λ same. sym (ap (λ t. t && not (ends_in (row old a) to)) same
      ∙ ap (λ z. not (ends_in (row old z) to)) (sym (eqb-true from a same)) ∙ ap not h
      ∙ sym same))
      (λ other. other ∙ sym (ap (λ t. t && not (ends_in (row old a) to)) other))
      (either_way (from == a)))

pub row_is : (graph : Graph) (s : ℕ) (v : Vec SigId Global) → s < size graph →
    v ≡ get_or graph.rows.items s v → numbers v.items ≡ row graph s
row_is graph s v inside is =
    ap (λ (r : Vec SigId Global). numbers r.items) is
    ∙ sym (get_or-map (λ (r : Vec SigId Global).
    numbers r.items) graph.rows.items s v [] inside)

-- the row that a loop over the rows comes to
pub row_reached : (graph : Graph) (rows : List (Vec SigId Global)) (s : ℕ) (v : Vec SigId Global)
    (items : List SigId)
    → rows ≡ graph.rows.items → s < length rows → v ≡ get_or rows s v → items ≡ v.items
    → numbers items ≡ row graph s
row_reached graph rows s v items same inside is listed =
    ap numbers listed
    ∙ row_is graph s v (subst (λ (rs : List (Vec SigId Global)). s < length rs) same inside)
    (subst (λ (rs : List (Vec SigId Global)). v ≡ get_or rs s v) same is)

pub last_is : (signals : List SigId) (last : SigId) (k : ℕ)
    → slice_get signals (length signals - 1) ≡ Some last
    → (last.0 == k) ≡ ends_in (numbers signals) k
last_is signals last k is =
    let f = λ (s : SigId). s.0 in
    let size : length (numbers signals) ≡ length signals = length-map signals f in
    sym (ap (λ n. is_last (slice_get (numbers signals) (n - 1)) k) size
    ∙ ap (λ o. is_last o k) (got f signals (length signals - 1) last is))
  where
    got : (f : SigId → ℕ) (xs : List SigId) (i : ℕ) (x : SigId) → slice_get xs i ≡ Some x →
        slice_get (map f xs) i ≡ Some (f x)
    got f [] i x e = absurd (let bad : None ≡ Some x = e in cc)
    got f (y ∷ xs) zero x e = ap (λ o. option_map f o) e
    got f (y ∷ xs) (suc i) x e = got f xs i x e

pub no_last : (signals : List SigId) (k : ℕ) → slice_get signals (length signals - 1) ≡ None →
    false ≡ ends_in (numbers signals) k
no_last [] k is = refl
no_last (s ∷ signals) k is =
    absurd (some_there (s ∷ signals) (length (s ∷ signals) - 1) (omega arith) is)
  where
    some_there : (xs : List SigId) (i : ℕ) → i < length xs → slice_get xs i ≡ None → ⊥
    some_there [] i lt e = omega arith
    some_there (x ∷ xs) zero lt e = cc
    some_there (x ∷ xs) (suc i) lt e = some_there xs i (omega arith) e

-- what holds of each row and its place
pub at_each_row : (P : ℕ → List ℕ → Type 0) (rows : List (Vec SigId Global))
    → AllWithin (λ (p : ℕ × Vec SigId Global). P p.0 (numbers p.1.items)) (enumerate_from 0 rows) 0
    (length (enumerate_from 0 rows))
    → (s : ℕ) → s < length rows
    → P s (get_or (map (λ (row : Vec SigId Global). numbers row.items) rows) s [])
at_each_row P [] all s inside = absurd (omega arith)
at_each_row P (row ∷ rows) all s inside =
    let count : s < length (enumerate_from 0 (row ∷ rows)) =
    subst (λ n. s < n) (sym (length-enumerate_from 0 (row ∷ rows))) inside in
    let zero_more : 0 + s ≡ s = omega arith in
    subst (P s)
    (sym (get_or-map (λ (r : Vec SigId Global). numbers r.items) (row ∷ rows) s row [] inside))
    (subst (λ k. P k (numbers (get_or (row ∷ rows) s row).items)) zero_more
    (subst (λ (p : ℕ × Vec SigId Global). P p.0 (numbers p.1.items))
    (get_or-enumerate_from 0 (row ∷ rows) s (0, row) inside)
    (all s (0, row) (omega arith) count)))
