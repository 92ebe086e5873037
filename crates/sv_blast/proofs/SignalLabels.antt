-- The labels of signals one after the other, and where their words and points stand.
use Rattle.std.proofs.Common.{◌≡◌, ℕ, zero, suc, ◌≤◌, ◌<◌, List, [], ◌∷◌, ◌++◌, map, length}
use Rattle.std.proofs.Common.{refl, sym, ap, ◌∙◌, subst, arith, Option, Some, None, get_or, ℤ}
use Rattle.std.proofs.Common.{ltb-true}
use Rattle.std.specs.Prelude.{All, Contains, IsTrue}
use Rattle.std.proofs.lemmas.List.{append-nil, length-map, get_or-map}
use Rattle.std.proofs.lemmas.List.Elements.{All-push, All-weaker, All-tail, All-nil, All-cons}
use Rattle.sv_system.proofs.Lists.{Contains-head, Contains-later}
use Rattle.sv_lattice.specs.declared.labels.Label.{Label}
use Rattle.sv_lattice.specs.declared.labels.Label.TheVariants.{Point as Declared, Table}
use Rattle.sv_lattice.specs.declared.points.Point.{Point}
use Rattle.sv_lattice.specs.declared.labels.LabelMap.{LabelMap}
use Rattle.sv_lattice.specs.Maps.{MapRows}
use Rattle.sv_lattice.specs.Labels.{map_of}
use Rattle.sv_flat.specs.Design.{SignalForm, FlatDesign}
use Rattle.sv_flat.specs.Values.{signal_of}
use Rattle.sv_flat.specs.Selectors.{selectors_of}
use Rattle.sv_flat.specs.Soundness.{label_sound, sound}
use Rattle.sv_flat.specs.Views.{signal_form, design_of}
use Rattle.sv_flat.specs.declared.designs.Flat.{Flat}
use Rattle.sv_flat.specs.declared.signals.Signal.{Signal}
use Rattle.sv_flat.proofs.SelectorBounds.{label_here, label_is_sound, label_map, same_there}
use Rattle.sv_gates.specs.Formulas.{Formula, IsLiteral}
use Rattle.sv_gates.specs.Extending.{Begins}
use Rattle.sv_gates.proofs.ExtendingLaws.{begins_none, begins_trans}
use Rattle.sv_circuits.specs.Circuits.{IsWord}
use Rattle.sv_circuits.proofs.WordKeeps.{step_behind, word_join, word_up}
use Rattle.sv_encoding.specs.Cones.{label_selectors}
use Rattle.sv_encoding.specs.Expressions.{Words}
use Rattle.sv_encoding.specs.Labels.{PointLiteral, LabelForm, selector_word, row_points}
use Rattle.sv_encoding.specs.Labels.{point_literals, label_literals, signal_label, signal_labels}
use Rattle.sv_circuits.specs.Words.{Word}
use Rattle.sv_blast.specs.LabelSteps.{points_below}
use Rattle.sv_blast.specs.declared.labels.PointLiteral.{PointLiteral as Literal_of}
use Rattle.sv_blast.specs.WordTables.{StandsOf}
use Rattle.sv_blast.specs.LabelViews.{point_form, label_form, AreWithin, AreBelow}
use Rattle.sv_blast.proofs.PointSteps.{behind, points_grow, label_up}

-- ---- entries of a label

pub entries_within : (n : ℕ) (label : List Literal_of) → AreWithin n (label_form label) →
    All (λ (p : Literal_of). IsLiteral n p.literal) label
entries_within n [] is k d h = absurd (omega arith)
entries_within n (p ∷ label) is zero d h = is 0 (point_form p) (omega arith)
entries_within n (p ∷ label) is (suc k) d h =
    entries_within n label
    (All-tail (λ (q : PointLiteral). IsLiteral n q.literal) (point_form p) (label_form label) is) k d
    (omega arith)

pub entries_below : (n : ℕ) (label : List Literal_of) → AreBelow n (label_form label) →
    All (λ (p : Literal_of). p.point.0 < n) label
entries_below n [] is k d h = absurd (omega arith)
entries_below n (p ∷ label) is zero d h = is 0 (point_form p) (omega arith)
entries_below n (p ∷ label) is (suc k) d h =
    entries_below n label
    (All-tail (λ (q : PointLiteral). q.point < n) (point_form p) (label_form label) is) k d
    (omega arith)

-- the literal of an entry, over more variables
pub entry_up : (m n : ℕ) (label : List Literal_of) (i : ℕ) (x : Literal_of) →
    AreWithin m (label_form label) → i < length label → x ≡ get_or label i x → m ≤ n →
    IsLiteral n x.literal
entry_up m n label i x is inside e up =
    let one = subst (λ (z : Literal_of). IsLiteral m z.literal) (sym e)
    (entries_within m label is i x inside) in
    (one.0, omega (arith, one.1, up))

-- what holds of each element of a list made from another, at one of the other's
pub mapped_at : {X Y : Type 0} (P : Y → Type 0) (f : X → Y) (xs : List X) (i : ℕ) (x : X) →
    All P (map f xs) → i < length xs → x ≡ get_or xs i x → P (f x)
mapped_at P f xs i x all inside e =
    subst P (get_or-map f xs i x (f x) inside ∙ ap f (sym e))
    (all i (f x) (omega (arith, length-map xs f, inside)))

pub labels_up : (m n : ℕ) (labels : List LabelForm) → m ≤ n → All (AreWithin m) labels →
    All (AreWithin n) labels
labels_up m n labels h is =
    All-weaker (AreWithin m) (AreWithin n) (λ label one. label_up m n label h one) labels is

-- ---- selectors

pub stands_up : (signals : List SignalForm) (m n : ℕ) (words : Words) (t : ℕ) → m ≤ n →
    StandsOf signals m words t → StandsOf signals n words t
stands_up signals m n words t h stands = (word_up m n (words t) h stands.0, stands.1)

pub selector_within : (signals : List SignalForm) (n : ℕ) (words : Words) (k first : ℕ)
    (second : Option ℕ) →
    ((t : ℕ) → Contains (selectors_of (Table k first second)) t → StandsOf signals n words t) →
    IsWord n (selector_word words first second)
selector_within signals n words k first None stand = (stand first (Contains-head first [])).0
selector_within signals n words k first (Some second) stand =
    word_join n (words second) (words first)
    (stand second (Contains-later first (second ∷ []) second (Contains-head second []))).0
    (stand first (Contains-head first (second ∷ []))).0

-- ---- the label of a signal

module _ (f : Flat) (is_sound : IsTrue (sound (design_of f))) (s : ℕ)
    (known : s < length f.signals.items) (items : List Signal) (same : items ≡ f.signals.items)
    (x : Signal) where
  pub label_read : (signal_of (design_of f).signals s).label ≡ (get_or items s x).label
  label_read =
      label_here f.signals.items s x known
      ∙ ap (λ (z : List Signal). (get_or z s x).label) (sym same)

  sound_read : (label : Label) → (get_or items s x).label ≡ label → IsTrue (label_sound (design_of f) label)
  sound_read label e =
      subst (λ z. IsTrue (label_sound (design_of f) z)) (label_read ∙ e)
      (label_is_sound (design_of f) is_sound s
      (omega (arith, length-map f.signals.items signal_form, known)))

  pub map_read : (k first : ℕ) (second : Option ℕ) → (get_or items s x).label ≡ Table k first second →
      k < length f.maps.items
  map_read k first second e =
      label_map (design_of f) k first second (sound_read (Table k first second) e)

  pub point_read : (point : Point) → (get_or items s x).label ≡ Declared point → point.0 < length f.lattice
  point_read point e =
      ltb-true point.0 (length f.lattice) (sound_read (Declared point) e)

  pub selectors_read : (label : Label) (t : ℕ) → (get_or items s x).label ≡ label →
      Contains (selectors_of label) t → Contains (label_selectors (design_of f) s) t
  selectors_read label t e at =
      subst (λ z. Contains (selectors_of z) t) (sym (label_read ∙ e)) at

  -- the map of the label
  pub rows_read : (maps : List LabelMap) (k : ℕ) (rows : LabelMap) → maps ≡ f.maps.items →
      k < length f.maps.items → rows ≡ get_or maps k rows → rows ≡ map_of (design_of f).maps k
  rows_read maps k rows em inside er =
      er ∙ ap (λ (z : List LabelMap). get_or z k rows) em
      ∙ same_there f.maps.items k rows _ inside

  -- the literals of a label by a map, as they are made
  pub table_read : (words : Words) (k first : ℕ) (second : Option ℕ) (rows : MapRows)
      (selector : Word) (n : ℕ) (g : Formula) → (get_or items s x).label ≡ Table k first second →
      rows ≡ map_of (design_of f).maps k → selector ≡ selector_word words first second →
      n ≡ length f.lattice →
      signal_label (design_of f) words s g
      ≡ point_literals rows selector (points_below n rows) g
  table_read words k first second rows selector n g e er es en =
      let design = design_of f in
      ap (λ z. label_literals design words z g) (label_read ∙ e)
      ∙ ap (λ z. point_literals z (selector_word words first second) (row_points design z) g)
      (sym er)
      ∙ ap (λ z. point_literals rows z (row_points design rows) g) (sym es)
      ∙ ap (λ z. point_literals rows selector (points_below z rows) g) (sym en)

-- the label that is always one point
pub always_below : (n : ℕ) (items : List Literal_of) (point : Point) (l : ℤ) →
    label_form items ≡ record { point = point.0; literal = l } ∷ [] → point.0 < n →
    All (λ (p : Literal_of). p.point.0 < n) items
always_below n items point l e low =
    entries_below n items
    (subst (AreBelow n) (sym e)
    (All-cons (λ (p : PointLiteral). p.point < n) (record { point = point.0; literal = l }) [] low
    (All-nil (λ (p : PointLiteral). p.point < n))))

-- ---- labels in turn

module _ (design : FlatDesign) (words : Words) where
  label_grows : (label : Label) (f : Formula) →
      f.variables ≤ ((label_literals design words label f).0).variables
  label_grows (Declared point) f = omega arith
  label_grows (Table k first second) f =
      let rows = map_of design.maps k in
      points_grow rows (selector_word words first second) (row_points design rows) f

  labels_grow : (ss : List ℕ) (f : Formula) →
      f.variables ≤ ((signal_labels design words ss f).0).variables
  labels_grow [] f = omega arith
  labels_grow (s ∷ ss) f =
      let one = label_grows (signal_of design.signals s).label f in
      let more = labels_grow ss (signal_label design words s f).0 in
      omega (arith, one, more)

  -- the labels that are left from the present formula on; those in hand are of its variables
  pub record LabelsAt (whole : Formula × List LabelForm) (ss : List ℕ) (old now : Formula)
      (labels : List LabelForm) : Type 0 where
    pub made : whole ≡ behind labels (signal_labels design words ss now)
    pub within : All (AreWithin now.variables) labels
    pub begins : Begins old now

  pub labels_start : (ss : List ℕ) (old : Formula) (labels : List LabelForm) → labels ≡ [] →
      LabelsAt (signal_labels design words ss old) ss old old labels
  labels_start ss old labels e =
      subst (LabelsAt (signal_labels design words ss old) ss old old) (sym e)
      (record { made = refl; within = All-nil (AreWithin old.variables); begins = begins_none old })

  labels_step : (ss more : List ℕ) (front : List LabelForm) (s : ℕ) (label : LabelForm)
      (now later : Formula) → ss ≡ s ∷ more → signal_label design words s now ≡ (later, label) →
      behind front (signal_labels design words ss now)
      ≡ behind (front ++ label ∷ []) (signal_labels design words more later)
  labels_step ss more front s label now later es e =
      ap (λ z. behind front (signal_labels design words z now)) es
      ∙ step_behind front (λ z. z) (λ f. signal_labels design words more f)
      (signal_label design words s now) later label e

  pub labels_more : (whole : Formula × List LabelForm) (ss more : List ℕ) (old now later : Formula)
      (labels : List LabelForm) (s : ℕ) (label : LabelForm) →
      LabelsAt whole ss old now labels → ss ≡ s ∷ more →
      signal_label design words s now ≡ (later, label) → Begins now later →
      AreWithin later.variables label → LabelsAt whole more old later (labels ++ label ∷ [])
  labels_more whole ss more old now later labels s label at es e up is = record {
    made = at.made ∙ labels_step ss more labels s label now later es e;
    within = All-push (AreWithin later.variables) labels label
        (labels_up now.variables later.variables labels up.grows at.within) is;
    begins = begins_trans old now later at.begins up;
  }

  pub labels_full : (whole : Formula × List LabelForm) (ss more : List ℕ) (old now : Formula)
      (labels : List LabelForm) (s most : ℕ) → LabelsAt whole ss old now labels → ss ≡ s ∷ more →
      most < ((signal_label design words s now).0).variables → most < (whole.0).variables
  labels_full whole ss more old now labels s most at es h =
      let up = labels_grow more (signal_label design words s now).0 in
      subst (λ (z : Formula × List LabelForm). most < (z.0).variables) (sym at.made)
      (subst (λ z. most < ((signal_labels design words z now).0).variables) (sym es)
      (omega (arith, up, h)))

  pub labels_end : (whole : Formula × List LabelForm) (ss : List ℕ) (old now : Formula)
      (labels : List LabelForm) → LabelsAt whole ss old now labels → ss ≡ [] →
      whole ≡ (now, labels)
  labels_end whole ss old now labels at e =
      at.made ∙ ap (λ z. behind labels (signal_labels design words z now)) e
      ∙ ap (λ z. (now, z)) (append-nil labels)
