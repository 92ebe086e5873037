-- Flows between labels, pair by pair.
use Rattle.std.proofs.Common.{◌≡◌, ℕ, true, false, cond, not, ℤ, List, [], ◌∷◌, ◌++◌, map, ap, ◌∙◌}
use Rattle.std.proofs.Common.{arith}
use Rattle.std.specs.Prelude.{filter, flat_map}
use Rattle.sv_lattice.specs.Tables.{flow_test}
use Rattle.sv_gates.specs.Gates.{and_gate}
use Rattle.sv_circuits.specs.Words.{BitMaker}
use Rattle.sv_encoding.specs.Labels.{PointLiteral, LabelForm}
use Rattle.sv_encoding_laws.proofs.GateCounts.{and_count}
use Rattle.sv_blast.specs.declared.labels.PointLiteral.{PointLiteral as Literal_of}
use Rattle.sv_blast.specs.LabelViews.{point_form, label_form}
use Rattle.sv_blast.specs.LabelSteps.{point_stays, label_stays}
use Rattle.sv_blast.proofs.OrChains.{Grows, EachGrows, each_join}

-- ---- pairs of points

and_grows : (a b : ℤ) → Grows (and_gate a b)
and_grows a b f = let e = and_count a b f in omega (arith, e)

module _ (lattice : List ℕ) where
  pairs_grow : (p : PointLiteral) (qs : LabelForm) →
      EachGrows (map (λ (q : PointLiteral). and_gate p.literal q.literal) qs)
  pairs_grow p [] = tt
  pairs_grow p (q ∷ qs) = (and_grows p.literal q.literal, pairs_grow p qs)

  pub stays_grow : (p : PointLiteral) (target : LabelForm) →
      EachGrows (point_stays lattice p target)
  stays_grow p target =
      pairs_grow p (filter (λ (q : PointLiteral). not (flow_test lattice p.point q.point)) target)

  pub labels_grow : (label target : LabelForm) → EachGrows (label_stays lattice label target)
  labels_grow [] target = tt
  labels_grow (p ∷ label) target =
      each_join (point_stays lattice p target) (label_stays lattice label target)
      (stays_grow p target) (labels_grow label target)

  -- a point of the target that the point does not flow to
  pub stay_here : (p : PointLiteral) (target more : List Literal_of) (q : Literal_of) →
      target ≡ q ∷ more → flow_test lattice p.point q.point.0 ≡ false →
      point_stays lattice p (label_form target)
      ≡ and_gate p.literal q.literal ∷ point_stays lattice p (label_form more)
  stay_here p target more q e stays =
      let rest = filter (λ (r : PointLiteral). not (flow_test lattice p.point r.point)) (label_form more) in
      ap (λ z. point_stays lattice p (label_form z)) e
      ∙ ap (λ c. map (λ (r : PointLiteral). and_gate p.literal r.literal)
      (cond (not c) (point_form q ∷ rest) rest)) stays

  -- and one that it flows to
  pub flow_here : (p : PointLiteral) (target more : List Literal_of) (q : Literal_of) →
      target ≡ q ∷ more → flow_test lattice p.point q.point.0 ≡ true →
      point_stays lattice p (label_form target) ≡ point_stays lattice p (label_form more)
  flow_here p target more q e flows =
      let rest = filter (λ (r : PointLiteral). not (flow_test lattice p.point r.point)) (label_form more) in
      ap (λ z. point_stays lattice p (label_form z)) e
      ∙ ap (λ c. map (λ (r : PointLiteral). and_gate p.literal r.literal)
      (cond (not c) (point_form q ∷ rest) rest)) flows

  -- the pairs of one more point of the label
  pub label_here : (label more target : List Literal_of) (p : Literal_of) → label ≡ p ∷ more →
      label_stays lattice (label_form label) (label_form target)
      ≡ point_stays lattice (point_form p) (label_form target)
      ++ label_stays lattice (label_form more) (label_form target)
  label_here label more target p e =
      ap (λ z. label_stays lattice (label_form z) (label_form target)) e

-- ---- labels in turn

module _ (lattice : List ℕ) (target : LabelForm) where
  -- the pairs of all labels
  abbrev pub all_stays : List LabelForm → List BitMaker
  all_stays labels = flat_map (λ label. label_stays lattice label target) labels

  pub all_grow : (labels : List LabelForm) → EachGrows (all_stays labels)
  all_grow [] = tt
  all_grow (label ∷ labels) =
      each_join (label_stays lattice label target) (all_stays labels)
      (labels_grow lattice label target) (all_grow labels)
