-- Rule 601 part by part.
use Rattle.std.proofs.Common.{◌≡◌, Bool, true, false, cond, List, [], ◌∷◌, ◌++◌, map, refl, sym, ap}
use Rattle.std.proofs.Common.{◌∙◌, append_assoc}
use Rattle.std.specs.Prelude.{filter, flat_map}
use Rattle.std.proofs.lemmas.List.{map-append}
use Rattle.std.proofs.lemmas.List.Elements.{filter-append}
use Rattle.sv_flat.specs.Design.{FlatStatement, after, ProcessKind, ProcessForm, FlatDesign}
use Rattle.sv_flat.specs.Breaches.{Breach}
use Rattle.sv_flat.specs.Assignments.{TargetForm, targets, is_wrong_target, target_breach}
use Rattle.sv_rules.specs.WrongAssigns.{wrong_of, wrong_in}

module _ (design : FlatDesign) (kind : ProcessKind) where
  pub wrong_append : (xs ys : List TargetForm) →
      wrong_of design kind (xs ++ ys) ≡ wrong_of design kind xs ++ wrong_of design kind ys
  wrong_append xs ys =
      ap (map target_breach) (filter-append (is_wrong_target design kind) xs ys)
      ∙ map-append target_breach (filter (is_wrong_target design kind) xs)
      (filter (is_wrong_target design kind) ys)

  -- one statement more
  pub one_more : (all done : List Breach) (s t rest : FlatStatement) → rest ≡ after s t
      → all ≡ done ++ wrong_in design kind rest
      → all ≡ (done ++ wrong_in design kind s) ++ wrong_in design kind t
  one_more all done s t rest is e =
      e ∙ ap (λ b. done ++ wrong_in design kind b) is
      ∙ ap (λ ws. done ++ ws) (wrong_append (targets s) (targets t))
      ∙ sym (append_assoc done (wrong_in design kind s) (wrong_in design kind t))

  map_one : (b : Bool) (t : TargetForm) →
      map target_breach (cond b (t ∷ []) []) ≡ cond b (target_breach t ∷ []) []
  map_one true t = refl
  map_one false t = refl

  -- one target more
  pub one_target_more :
      (all done : List Breach) (t : TargetForm) (ts : List TargetForm) (wrong : Bool)
      → wrong ≡ is_wrong_target design kind t
      → all ≡ done ++ wrong_of design kind (t ∷ ts)
      → all ≡ (done ++ cond wrong (target_breach t ∷ []) []) ++ wrong_of design kind ts
  one_target_more all done t ts wrong is e =
      e ∙ ap (λ ws. done ++ ws) (wrong_append (t ∷ []) ts)
      ∙ ap (λ ws. done ++ (ws ++ wrong_of design kind ts))
      (map_one (is_wrong_target design kind t) t)
      ∙ ap (λ b. done ++ (cond b (target_breach t ∷ []) [] ++ wrong_of design kind ts)) (sym is)
      ∙ sym (append_assoc done (cond wrong (target_breach t ∷ []) []) (wrong_of design kind ts))

-- one process more
pub one_process_more :
    (design : FlatDesign) (all done : List Breach) (p : ProcessForm) (ps : List ProcessForm)
    → all ≡ done ++ flat_map (λ (q : ProcessForm). wrong_in design q.kind q.body) (p ∷ ps)
    → all ≡ (done ++ wrong_in design p.kind p.body) ++ flat_map (λ (q : ProcessForm).
    wrong_in design q.kind q.body) ps
one_process_more design all done p ps e =
    e ∙ sym (append_assoc done (wrong_in design p.kind p.body)
    (flat_map (λ (q : ProcessForm). wrong_in design q.kind q.body) ps))
