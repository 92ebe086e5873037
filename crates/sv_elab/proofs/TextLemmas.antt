-- What a shaped text is made of, and how many maps it has.
use Rattle.std.proofs.Common.{◌≡◌, ℕ, ◌+◌, Bool, true, false, cond, List, [], ◌∷◌, ◌++◌, length}
use Rattle.std.proofs.Common.{find, filter, Option, Some, None, refl, sym, ap, ◌∙◌, arith}
use Rattle.std.specs.Prelude.{Ok, ◌&&◌}
use Rattle.std.specs.List.{list_all}
use Rattle.std.specs.Str.{bytes_eq}
use Rattle.std.proofs.lemmas.Bool.{and_parts}
use Rattle.std.proofs.lemmas.List.{length-append}
use Rattle.sv_lattice.specs.Maps.{MapRows}
use Rattle.sv_ast.specs.Tree.{MapTree, ModuleTree}
use Rattle.sv_ast.specs.Instances.{only, top_module}
use Rattle.sv_ast.specs.Shape.{is_shaped_module}
use Rattle.sv_elab_rules.specs.LabelMaps.{map_walk, maps_walk}
use Rattle.sv_elab_rules.proofs.WalkLemmas.{parts_done}

module _ {X : Type 0} (p : X → Bool) where
  pub found_passes : (q : X → Bool) (xs : List X) (x : X) → list_all p xs ≡ true →
      find q xs ≡ Some x → p x ≡ true
  found_passes q [] x h is = absurd (cc is)
  found_passes q (y ∷ ys) x h is =
      let both : (p y ≡ true) × (list_all p ys ≡ true) = and_parts (p y) (list_all p ys) h in
      by (q y) both.0 (found_passes q ys x both.1) is
    where
      by : (b : Bool) → p y ≡ true → (find q ys ≡ Some x → p x ≡ true) →
          cond b (Some y) (find q ys) ≡ Some x → p x ≡ true
      by true here rest e = let same : y ≡ x = cc e in sym (ap p same) ∙ here
      by false here rest e = rest e

  filtered_pass : (q : X → Bool) (xs : List X) → list_all p xs ≡ true →
      list_all p (filter q xs) ≡ true
  filtered_pass q [] h = refl
  filtered_pass q (y ∷ ys) h =
      let both : (p y ≡ true) × (list_all p ys ≡ true) = and_parts (p y) (list_all p ys) h in
      by (q y) both.0 (filtered_pass q ys both.1)
    where
      by : (b : Bool) → p y ≡ true → list_all p (filter q ys) ≡ true →
          list_all p (cond b (y ∷ filter q ys) (filter q ys)) ≡ true
      by true here rest = ap (λ a. a && list_all p (filter q ys)) here ∙ rest
      by false here rest = rest

  only_passes : (xs : List X) (x : X) → list_all p xs ≡ true → only xs ≡ Some x → p x ≡ true
  only_passes [] x h is = absurd (cc is)
  only_passes (y ∷ []) x h is =
      let same : y ≡ x = cc is in
      sym (ap p same) ∙ (and_parts (p y) true h).0
  only_passes (y ∷ z ∷ zs) x h is = absurd (cc is)

-- the top of a shaped text is shaped
pub top_passes : (ms : List ModuleTree) (asked : Option (List ℕ)) (m : ModuleTree)
    → list_all is_shaped_module ms ≡ true
    → top_module ms asked ≡ Some m → is_shaped_module m ≡ true
top_passes ms (Some n) m h is =
    found_passes is_shaped_module (λ (k : ModuleTree). bytes_eq n k.name) ms m h is
top_passes ms None m h is =
    only_passes is_shaped_module _ m (filtered_pass is_shaped_module _ ms h) is

-- as many maps as the text declares
pub maps_length : (points : List (List ℕ)) (maps : List (List ℕ × MapRows)) (ts : List MapTree)
    (all : List (List ℕ × MapRows))
    → (maps_walk points maps ts).end ≡ Ok all → length all ≡ length maps + length ts
unfolding maps_walk
maps_length points maps [] all h =
    let same : maps ≡ all = cc h in let e : length maps + 0 ≡ length maps = omega arith in
    sym (ap length same) ∙ sym e
maps_length points maps (t ∷ ts) all h =
    let parts = parts_done (map_walk points maps t) (λ rows.
    maps_walk points (maps ++ (t.name, rows) ∷ []) ts) all h in
    let more : length (maps ++ (t.name, parts.0) ∷ []) ≡ length maps + 1 =
    length-append maps ((t.name, parts.0) ∷ []) in
    let rest : length all ≡ length (maps ++ (t.name, parts.0) ∷ []) + length ts =
    maps_length points (maps ++ (t.name, parts.0) ∷ []) ts all parts.2 in
    omega arith
