-- Where the walk of a label ends, by its steps.
use Rattle.std.proofs.Common.{◌≡◌, ℕ, Bool, true, false, List, [], ◌∷◌, ◌++◌, map, Option}
use Rattle.std.proofs.Common.{Some, None, refl, sym, ap, ◌∙◌, append_assoc, eq-eqb}
use Rattle.std.specs.Prelude.{Result, Ok, Err, position, option_map, ◌==◌}
use Rattle.std.specs.Str.{bytes_eq}
use Rattle.std.proofs.lemmas.Option.{same_Some}
use Rattle.sv_num.specs.declared.faults.Place.{Place}
use Rattle.sv_lattice.specs.declared.labels.Label.{Label}
use Rattle.sv_lattice.specs.declared.labels.Label.TheVariants.{Point as Declared_point, Table}
use Rattle.sv_lattice.specs.Labels.{map_of}
use Rattle.sv_ast.specs.Scopes.{width_of}
use Rattle.sv_ast.specs.Tree.{LabelTree, point_label, table_label, DeclarationTree}
use Rattle.sv_ast.specs.Instances.{is_signal}
use Rattle.sv_flat.specs.Design.{SignalForm}
use Rattle.sv_elab_rules.specs.Walks.{WalkStep, Walk, ask, done, found, then_walk, ◌>>=◌}
use Rattle.sv_elab_rules.specs.Rules.{bad_label}
use Rattle.sv_elab_rules.specs.Names.{Names}
use Rattle.sv_elab_rules.specs.Lattices.{point_number}
use Rattle.sv_elab_rules.specs.LabelSteps.{SharedTables, second_selector, same_number, second_fits}
use Rattle.sv_elab_rules.specs.LabelSteps.{second_number, label_walk, given_label, labels_walk}
use Rattle.sv_elab_rules.proofs.WalkLemmas.{end_after, end_broken}
use Rattle.sv_width.specs.declared.meanings.KnownSignal.{KnownSignal}
use Rattle.sv_width.specs.declared.meanings.Meaning.{Meaning}
use Rattle.sv_width.specs.declared.meanings.Meaning.TheVariants as meaning
use Rattle.sv_width.specs.Scopes.{Known, binding_of, bindings_of, number_in}
use Rattle.sv_width.specs.Scopes.{signal_number, names_of}
use Rattle.sv_elab_decl.specs.declared.labelling.FoundMap.{FoundMap}
use Rattle.sv_elab_decl.specs.declared.labelling.MapLabel.{MapLabel}
use Rattle.sv_elab_decl.specs.Selectors.{IsSelector, IsSecond, IsMapNamed, map_label}

-- ---- selectors

pub selector_asked : (known : Known) (n : List ℕ) (s : KnownSignal) (t : WalkStep)
    → IsSelector known n s
    → (ask (is_signal (bindings_of known n)) t).end ≡ Ok tt
selector_asked known n s t is =
    ap (λ (r : Option Meaning). (ask (is_signal (option_map binding_of r)) t).end) is

pub selector_width : (known : Known) (n : List ℕ) (s : KnownSignal) → IsSelector known n s
    → width_of (bindings_of known n) ≡ s.width
selector_width known n s is = ap (λ (r : Option Meaning). width_of (option_map binding_of r)) is

pub selector_number : (known : Known) (n : List ℕ) (s : KnownSignal) → IsSelector known n s
    → number_in known n ≡ s.signal.0
selector_number known n s is = ap (λ (r : Option Meaning). signal_number r) is

-- ---- second ones

pub second_selected : (names : Names) (p : Place) (name : Option (List ℕ)) (n : List ℕ)
    → name ≡ Some n
    → (second_selector names p name).end ≡ (ask (is_signal (names.scope n)) (bad_label p n)).end
unfolding second_selector
second_selected names p name n is =
    ap (λ (o : Option (List ℕ)). (second_selector names p o).end) is

pub second_asked : (known : Known) (p : Place) (name : Option (List ℕ))
    (signal : Option KnownSignal)
    → IsSecond known name signal → (second_selector (names_of known) p name).end ≡ Ok tt
unfolding second_selector
second_asked known p None None is = refl
second_asked known p None (Some s) is = absurd is
second_asked known p (Some n) None is = absurd is
second_asked known p (Some n) (Some s) is = selector_asked known n s (bad_label p n) is

pub second_numbers : (known : Known) (name : Option (List ℕ)) (signal : Option KnownSignal)
    → IsSecond known name signal
    → second_number (names_of known) name ≡ option_map (λ (s : KnownSignal). s.signal.0) signal
second_numbers known None None is = refl
second_numbers known None (Some s) is = absurd is
second_numbers known (Some n) None is = absurd is
second_numbers known (Some n) (Some s) is = ap (λ (k : ℕ). Some k) (selector_number known n s is)

pub same_numbers : (known : Known) (width : Option ℕ) (name : Option (List ℕ))
    (signal : Option KnownSignal)
    → IsSecond known name signal → same_number width name ≡ same_number width signal
same_numbers known None None None is = refl
same_numbers known (Some w) None None is = refl
same_numbers known width None (Some s) is = absurd is
same_numbers known width (Some n) None is = absurd is
same_numbers known None (Some n) (Some s) is = refl
same_numbers known (Some w) (Some n) (Some s) is = refl

pub second_absent : (names : Names) (p : Place) (name : Option (List ℕ)) (width : Option ℕ)
    → name ≡ None
    → (second_fits names p name width).end ≡ Ok tt
unfolding second_fits
second_absent names p None None h = refl
second_absent names p None (Some w) h = refl
second_absent names p (Some n) width h = absurd (cc h)

pub second_rangeless : (names : Names) (p : Place) (name : Option (List ℕ)) (width : Option ℕ)
    → width ≡ None
    → (second_fits names p name width).end ≡ Ok tt
unfolding second_fits
second_rangeless names p None None h = refl
second_rangeless names p (Some n) None h = refl
second_rangeless names p name (Some w) h = absurd (cc h)

pub second_unknown :
    (known : Known) (name : Option (List ℕ)) (n : List ℕ) (signal : Option KnownSignal)
    → name ≡ Some n → signal ≡ None → IsSecond known name signal → ⊥
second_unknown known None n signal h k is = cc h
second_unknown known (Some m) n None h k is = is
second_unknown known (Some m) n (Some s) h k is = cc k

pub second_end : (known : Known) (p : Place) (name : Option (List ℕ)) (signal : Option KnownSignal)
    (width : Option ℕ) (n : List ℕ) (s : KnownSignal) (w : ℕ)
    → name ≡ Some n → signal ≡ Some s → width ≡ Some w → IsSecond known name signal
    → (second_fits (names_of known) p name width).end ≡ (ask (s.width == w) (bad_label p n)).end
unfolding second_fits
second_end known p None signal width n s w a b c is = absurd (cc a)
second_end known p (Some m) None width n s w a b c is = absurd (cc b)
second_end known p (Some m) (Some t) None n s w a b c is = absurd (cc c)
second_end known p (Some m) (Some t) (Some v) n s w a b c is =
    ap (λ (x : ℕ). (ask (x == v) (bad_label p m)).end) (selector_width known m t is)
    ∙ ap (λ (u : KnownSignal). (ask (u.width == v) (bad_label p m)).end) (same_Some t s b)
    ∙ ap (λ (x : ℕ). (ask (s.width == x) (bad_label p m)).end) (same_Some v w c)
    ∙ ap (λ (k : List ℕ). (ask (s.width == w) (bad_label p k)).end) (same_Some m n a)

-- ---- a point

module _ (tables : SharedTables) (names : Names) (n : List ℕ) (p : Place) where
  pub point_found : (k : ℕ) → point_number tables.points n ≡ Some k
      → (label_walk tables names (point_label n p)).end ≡ Ok (Declared_point (record { 0 = k }))
  unfolding label_walk
  point_found k h = rw h refl

  pub point_unknown : point_number tables.points n ≡ None
      → (label_walk tables names (point_label n p)).end ≡ Err (bad_label p n)
  unfolding label_walk
  point_unknown h = rw h refl

-- ---- a row of a map

module _ (tables : SharedTables) (names : Names) (n first : List ℕ) (second : Option (List ℕ))
    (p : Place) where
  made : ℕ → Walk Label
  made map = done (Table map (names.number first) (second_number names second))

  by_second_width : ℕ → Walk Label
  by_second_width map = second_fits names p second (map_of tables.maps map).second >>= λ _. made map

  by_width : ℕ → Walk Label
  by_width map =
      ask (width_of (names.scope first) == (map_of tables.maps map).first) (bad_label p first)
      >>= λ _. by_second_width map

  by_number : ℕ → Walk Label
  by_number map =
      ask (same_number (map_of tables.maps map).second second) (bad_label p n) >>= λ _. by_width map

  by_second : ℕ → Walk Label
  by_second map = second_selector names p second >>= λ _. by_number map

  by_first : ℕ → Walk Label
  by_first map = ask (is_signal (names.scope first)) (bad_label p first) >>= λ _. by_second map

  begin : (label_walk tables names (table_label n first second p)).end
      ≡ (found (position (bytes_eq n) tables.map_names) (bad_label p n) >>= by_first).end
  unfolding label_walk by_first by_second by_number by_width by_second_width made
  begin = refl

  pub map_unknown : position (bytes_eq n) tables.map_names ≡ None
      → (label_walk tables names (table_label n first second p)).end ≡ Err (bad_label p n)
  map_unknown h =
      begin ∙ ap (λ (o : Option ℕ). (found o (bad_label p n) >>= by_first).end) h

  module _ (map : ℕ) (at : position (bytes_eq n) tables.map_names ≡ Some map) where
    to_first : (label_walk tables names (table_label n first second p)).end ≡ (by_first map).end
    to_first = begin ∙ ap (λ (o : Option ℕ). (found o (bad_label p n) >>= by_first).end) at

    pub first_stops : (s : WalkStep)
        → (ask (is_signal (names.scope first)) (bad_label p first)).end ≡ Err s
        → (label_walk tables names (table_label n first second p)).end ≡ Err s
    unfolding by_first
    first_stops s h =
        to_first ∙ end_broken (ask (is_signal (names.scope first)) (bad_label p first)) (λ _.
        by_second map) s h

    module _ (first_ok : (ask (is_signal (names.scope first)) (bad_label p first)).end ≡
        Ok tt) where
      to_second : (label_walk tables names (table_label n first second p)).end ≡ (by_second map).end
      unfolding by_first
      to_second =
          to_first
          ∙ end_after (ask (is_signal (names.scope first)) (bad_label p first)) (λ _.
          by_second map) tt first_ok

      pub second_stops : (s : WalkStep) → (second_selector names p second).end ≡ Err s
          → (label_walk tables names (table_label n first second p)).end ≡ Err s
      unfolding by_second
      second_stops s h =
          to_second ∙ end_broken (second_selector names p second) (λ _. by_number map) s h

      module _ (second_ok : (second_selector names p second).end ≡ Ok tt) where
        to_number : (label_walk tables names (table_label n first second p)).end ≡
            (by_number map).end
        unfolding by_second
        to_number =
            to_second ∙ end_after (second_selector names p second) (λ _. by_number map) tt second_ok

        pub number_wrong : same_number (map_of tables.maps map).second second ≡ false
            → (label_walk tables names (table_label n first second p)).end ≡ Err (bad_label p n)
        unfolding by_number
        number_wrong h =
            to_number ∙ ap (λ (b : Bool). (ask b (bad_label p n) >>= λ _. by_width map).end) h

        module _ (number_ok : same_number (map_of tables.maps map).second second ≡ true) where
          to_width : (label_walk tables names (table_label n first second p)).end ≡
              (by_width map).end
          unfolding by_number
          to_width =
              to_number ∙ ap (λ (b : Bool).
              (ask b (bad_label p n) >>= λ _. by_width map).end) number_ok

          pub width_stops : (s : WalkStep)
              → (ask (width_of (names.scope first) == (map_of tables.maps map).first)
              (bad_label p first)).end ≡ Err s
              → (label_walk tables names (table_label n first second p)).end ≡ Err s
          unfolding by_width
          width_stops s h =
              to_width
              ∙ end_broken (ask (width_of (names.scope first) == (map_of tables.maps map).first)
              (bad_label p first))
              (λ _. by_second_width map) s h

          module _ (width_ok : (width_of (names.scope first) == (map_of tables.maps map).first) ≡
              true) where
            to_second_width : (label_walk tables names (table_label n first second p)).end ≡
                (by_second_width map).end
            unfolding by_width
            to_second_width =
                to_width
                ∙ ap (λ (b : Bool). (ask b (bad_label p first) >>= λ _. by_second_width map).end)
                width_ok

            pub second_width_stops : (s : WalkStep)
                → (second_fits names p second (map_of tables.maps map).second).end ≡ Err s
                → (label_walk tables names (table_label n first second p)).end ≡ Err s
            unfolding by_second_width
            second_width_stops s h =
                to_second_width
                ∙ end_broken (second_fits names p second (map_of tables.maps map).second) (λ _.
                made map) s h

            pub label_made : (second_fits names p second (map_of tables.maps map).second).end ≡
                Ok tt
                → (label_walk tables names (table_label n first second p)).end
                ≡ Ok (Table map (names.number first) (second_number names second))
            unfolding by_second_width made
            label_made h =
                to_second_width
                ∙ end_after (second_fits names p second (map_of tables.maps map).second) (λ _.
                made map) tt h

-- ---- the same, from what the code has found of the map and of its selectors

module _ (tables : SharedTables) (known : Known) (text : MapLabel) (map : FoundMap)
    (is : IsMapNamed tables text.name.now map) (first : KnownSignal)
    (selects : IsSelector known text.first.now first) (second : Option KnownSignal)
    (seconds : IsSecond known text.second.now second) where
  first_ok : (ask (is_signal (bindings_of known text.first.now))
      (bad_label text.place text.first.now)).end ≡ Ok tt
  first_ok =
      selector_asked known text.first.now first (bad_label text.place text.first.now) selects

  second_ok : (second_selector (names_of known) text.place text.second.now).end ≡ Ok tt
  second_ok = second_asked known text.place text.second.now second seconds

  number_is : same_number (map_of tables.maps map.number).second text.second.now
      ≡ same_number map.second second
  number_is =
      ap (λ (w : Option ℕ). same_number w text.second.now) (sym is.2)
      ∙ same_numbers known map.second text.second.now second seconds

  pub number_differs : same_number map.second second ≡ false
      → (label_walk tables (names_of known) (map_label text)).end
      ≡ Err (bad_label text.place text.name.now)
  number_differs h =
      number_wrong tables (names_of known) text.name.now text.first.now text.second.now text.place
      map.number is.0 first_ok second_ok (number_is ∙ h)

  module _ (number_ok : same_number map.second second ≡ true) where
    pub first_misfits : (s : WalkStep)
        → (ask (first.width == map.first) (bad_label text.place text.first.now)).end ≡ Err s
        → (label_walk tables (names_of known) (map_label text)).end ≡ Err s
    first_misfits s h =
        width_stops tables (names_of known) text.name.now text.first.now text.second.now text.place
        map.number is.0 first_ok second_ok (number_is ∙ number_ok) s
        (ap (λ (w : ℕ). (ask (w == (map_of tables.maps map.number).first)
        (bad_label text.place text.first.now)).end)
        (selector_width known text.first.now first selects)
        ∙ ap (λ (w : ℕ). (ask (first.width == w) (bad_label text.place text.first.now)).end)
        (sym is.1) ∙ h)

    module _ (fits : first.width ≡ map.first) where
      width_ok : (width_of (bindings_of known text.first.now)
          == (map_of tables.maps map.number).first) ≡ true
      width_ok =
          eq-eqb _ _ (selector_width known text.first.now first selects ∙ fits ∙ is.1)

      pub second_misfits : (s : WalkStep)
          → (second_fits (names_of known) text.place text.second.now map.second).end ≡ Err s
          → (label_walk tables (names_of known) (map_label text)).end ≡ Err s
      second_misfits s h =
          second_width_stops tables (names_of known) text.name.now text.first.now text.second.now
          text.place map.number is.0 first_ok second_ok (number_is ∙ number_ok) width_ok s
          (ap (λ (w : Option ℕ).
          (second_fits (names_of known) text.place text.second.now w).end) (sym is.2) ∙ h)

      pub row_made : (second_fits (names_of known) text.place text.second.now map.second).end ≡
          Ok tt
          → (label_walk tables (names_of known) (map_label text)).end
          ≡ Ok (Table map.number first.signal.0
          (option_map (λ (s : KnownSignal). s.signal.0) second))
      row_made h =
          label_made tables (names_of known) text.name.now text.first.now text.second.now text.place
          map.number is.0 first_ok second_ok (number_is ∙ number_ok) width_ok
          (ap (λ (w : Option ℕ).
          (second_fits (names_of known) text.place text.second.now w).end) (sym is.2) ∙ h)
          ∙ ap (λ (k : ℕ).
          Ok (Table map.number k (second_number (names_of known) text.second.now)))
          (selector_number known text.first.now first selects)
          ∙ ap (λ (o : Option ℕ). Ok (Table map.number first.signal.0 o))
          (second_numbers known text.second.now second seconds)

-- ---- a declaration's label

module _ (tables : SharedTables) (names : Names) (t : Option LabelTree) (s : SignalForm) where
  pub label_kept : t ≡ None → (given_label tables names t s).end ≡ Ok s
  unfolding given_label
  label_kept h = ap (λ (o : Option LabelTree). (given_label tables names o s).end) h

  pub label_given : (l : LabelTree) (label : Label) → t ≡ Some l
      → (label_walk tables names l).end ≡ Ok label
      → (given_label tables names t s).end ≡ Ok (record s { label = label })
  unfolding given_label
  label_given l label h k =
      ap (λ (o : Option LabelTree). (given_label tables names o s).end) h
      ∙ end_after (label_walk tables names l) (λ (x : Label). done (record s { label = x })) label k

  pub label_stops : (l : LabelTree) (u : WalkStep) → t ≡ Some l
      → (label_walk tables names l).end ≡ Err u
      → (given_label tables names t s).end ≡ Err u
  unfolding given_label
  label_stops l u h k =
      ap (λ (o : Option LabelTree). (given_label tables names o s).end) h
      ∙ end_broken (label_walk tables names l) (λ (x : Label). done (record s { label = x })) u k

-- ---- labels one after another

-- some signals before those that a walk finds
abbrev pub behind : List SignalForm → Result (List SignalForm) WalkStep
    → Result (List SignalForm) WalkStep
behind xs (Ok ys) = Ok (xs ++ ys)
behind xs (Err s) = Err s

module _ (xs : List SignalForm) (first : SignalForm) (w : Walk (List SignalForm)) where
  behind_more : behind xs (w >>= λ (rest : List SignalForm). done (first ∷ rest)).end
      ≡ behind (xs ++ first ∷ []) w.end
  behind_more = by w.end
    where
      by : (r : Result (List SignalForm) WalkStep)
          → behind xs (then_walk w.passed r (λ (rest : List SignalForm). done (first ∷ rest))).end
          ≡ behind (xs ++ first ∷ []) r
      by (Ok ys) = ap (λ (zs : List SignalForm). Ok zs) (sym (append_assoc xs (first ∷ []) ys))
      by (Err s) = refl

module _ (tables : SharedTables) (names : Names) where
  -- the labels of the others, behind a signal that has its own
  abbrev others_behind : List DeclarationTree → List SignalForm → SignalForm
      → Walk (List SignalForm)
  others_behind ds ss =
      λ (x : SignalForm). labels_walk tables names ds ss >>= λ (rest : List SignalForm).
      done (x ∷ rest)

  pub labels_more : (xs : List SignalForm) (d : DeclarationTree) (ds : List DeclarationTree)
      (s first : SignalForm) (ss : List SignalForm)
      → (given_label tables names d.label s).end ≡ Ok first
      → behind xs (labels_walk tables names (d ∷ ds) (s ∷ ss)).end
      ≡ behind (xs ++ first ∷ []) (labels_walk tables names ds ss).end
  unfolding labels_walk
  labels_more xs d ds s first ss h =
      ap (λ (r : Result (List SignalForm) WalkStep). behind xs r)
      (end_after (given_label tables names d.label s) (others_behind ds ss) first h)
      ∙ behind_more xs first (labels_walk tables names ds ss)

  pub labels_stop : (xs : List SignalForm) (d : DeclarationTree) (ds : List DeclarationTree)
      (s : SignalForm) (ss : List SignalForm) (u : WalkStep)
      → (given_label tables names d.label s).end ≡ Err u
      → behind xs (labels_walk tables names (d ∷ ds) (s ∷ ss)).end ≡ Err u
  unfolding labels_walk
  labels_stop xs d ds s ss u h =
      ap (λ (r : Result (List SignalForm) WalkStep). behind xs r)
      (end_broken (given_label tables names d.label s) (others_behind ds ss) u h)

  pub labels_none : (xs ss : List SignalForm) →
      behind xs (labels_walk tables names [] ss).end ≡ Ok (xs ++ ss)
  unfolding labels_walk
  labels_none xs ss = refl
