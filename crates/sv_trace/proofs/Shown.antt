-- What stands in the line of a trace.
use Rattle.std.proofs.Common.{◌≡◌, ℕ, ◌+◌, ◌<◌, ◌^◌, Bool, true, false, cond, ◌&&◌}
use Rattle.std.proofs.Common.{◌==◌, nat_lt, List, [], ◌∷◌, ◌++◌, length, map, filter, get_or, refl}
use Rattle.std.proofs.Common.{sym}
use Rattle.std.proofs.Common.{ap, ◌∙◌, subst, arith, ⊎_elim, ◌⊎◌, Option, Some, None, ltb-true}
use Rattle.std.proofs.Common.{lt-ltb, pow_pos, not}
use Rattle.std.specs.Prelude.{All, Contains, IsTrue, flat_map, replicate}
use Rattle.std.specs.List.{zip}
use Rattle.std.proofs.lemmas.Bool.{eqb-true, eq-eqb, false≢true, cases_lt}
use Rattle.std.proofs.lemmas.List.{get_or_past, get_or-replicate, length-replicate, length-map}
use Rattle.sv_lattice.specs.declared.points.Point.{Point}
use Rattle.sv_lattice.specs.declared.labels.Label.{Label}
use Rattle.sv_lattice.specs.declared.labels.Label.TheVariants.{Point as Declared, Table}
use Rattle.sv_lattice.specs.Maps.{MapRows, pair_value}
use Rattle.sv_lattice.specs.Labels.{map_of, label_of, IsReadable, FitsRange, FitsSecond}
use Rattle.sv_lattice.specs.Tables.{flow_test}
use Rattle.sv_system.specs.System.{Environment, last_update}
use Rattle.sv_system.proofs.Lists.{Contains-nil, Contains-cases, Contains-head, Contains-later}
use Rattle.sv_flat.specs.Admission.{IsAdmitted}
use Rattle.sv_flat.specs.ByNumber.{by_number, FitSignals}
use Rattle.sv_flat.specs.Clocks.{is_clock}
use Rattle.sv_flat.specs.Design.{SignalForm, FlatDesign}
use Rattle.sv_flat.specs.FlatSystem.{flat_system}
use Rattle.sv_flat.specs.SignalLists.{system_signals}
use Rattle.sv_flat.specs.Soundness.{sound, is_signal, label_sound, selector_fits}
use Rattle.sv_flat.specs.Soundness.{second_fits}
use Rattle.sv_flat.specs.Values.{signal_of, signal_width}
use Rattle.sv_flat.proofs.Depths.{first_of, second_of}
use Rattle.sv_flat.proofs.LeastSets.{those_below}
use Rattle.sv_flat.proofs.SelectorBounds.{label_is_sound, rows_are_points, label_map}
use Rattle.sv_flat.proofs.SelectorBounds.{label_here}
use Rattle.sv_flat.specs.declared.designs.Flat.{Flat}
use Rattle.sv_flat.specs.declared.signals.Signal.{Signal}
use Rattle.sv_flat.specs.Views.{design_of, signal_form}
use Rattle.sv_flat.proofs.SelectorFacts.{label_selected, selector_is_seen}
use Rattle.sv_flat.specs.Given.{given, with_given}
use Rattle.sv_trace.specs.Traces.{pair_text, shown, is_shown, text_of_signal}

-- ---- labels are read

range_fits : (design : FlatDesign) (values : List ℕ) (s width : ℕ)
    → FitSignals design.signals values → IsTrue (selector_fits design.signals s width)
    → FitsRange values s width
range_fits design values s width fit h =
    let known : s < length design.signals = ltb-true s (length design.signals)
    (first_of (is_signal design.signals s) (signal_width design.signals s == width) h) in
    let same : signal_width design.signals s ≡ width = eqb-true
    (signal_width design.signals s) width
    (second_of (is_signal design.signals s) (signal_width design.signals s == width) h) in
    (omega (arith, fit.count), subst (λ w. get_or values s 0 < 2 ^ w) same (fit.each s known))

second_range : (design : FlatDesign) (values : List ℕ) (second range : Option ℕ)
    → FitSignals design.signals values → IsTrue (second_fits design.signals second range)
    → FitsSecond values second range
second_range design values None None fit h = tt
second_range design values None (Some width) fit h = absurd (false≢true h)
second_range design values (Some s) None fit h = absurd (false≢true h)
second_range design values (Some s) (Some width) fit h = range_fits design values s width fit h

pub readable : (design : FlatDesign) (values : List ℕ) (label : Label)
    → FitSignals design.signals values → IsTrue (label_sound design label)
    → IsReadable design.maps label values
readable design values (Declared point) fit h = tt
readable design values (Table map first second) fit h = (
  label_map design map first second h,
  range_fits design values first (map_of design.maps map).first fit
      (second_of (nat_lt map (length design.maps))
      (selector_fits design.signals first (map_of design.maps map).first)
      (first_of (nat_lt map (length design.maps)
      && selector_fits design.signals first (map_of design.maps map).first)
      (second_fits design.signals second (map_of design.maps map).second) h)),
  second_range design values second (map_of design.maps map).second fit
      (second_of (nat_lt map (length design.maps)
      && selector_fits design.signals first (map_of design.maps map).first)
      (second_fits design.signals second (map_of design.maps map).second) h),
)

row_point : (n : ℕ) (rows : List Point) (v : ℕ) → All (λ (row : Point). row.0 < n) rows → 0 < n
    → (get_or rows v (record { 0 = 0 })).0 < n
row_point n rows v each some = ⊎_elim
    (λ inside. each v (record { 0 = 0 }) inside)
    (λ past. subst (λ (p : Point). p.0 < n) (sym (get_or_past rows v (record { 0 = 0 }) past)) some)
    (cases_lt v (length rows))

pub label_point : (design : FlatDesign) → IsTrue (sound design) → (label : Label) (values : List ℕ)
    → IsTrue (label_sound design label) → 0 < length design.lattice
    → (label_of design.maps label values).0 < length design.lattice
label_point design is (Declared point) values h some = ltb-true point.0 (length design.lattice) h
label_point design is (Table map first None) values h some =
    row_point (length design.lattice) (map_of design.maps map).rows (get_or values first 0)
    (rows_are_points design is map (label_map design map first None h)) some
label_point design is (Table map first (Some second)) values h some =
    row_point (length design.lattice) (map_of design.maps map).rows
    (pair_value (map_of design.maps map) (get_or values first 0) (get_or values second 0))
    (rows_are_points design is map (label_map design map first (Some second) h)) some

-- ---- the signals of a line, one by one

text_over : (design : FlatDesign) (level : Option Point) (environment : Environment ℕ)
    (p : ℕ → Bool) (ss : List ℕ)
    → ((s : ℕ) → p s ≡ is_shown design level environment s)
    → flat_map (pair_text design) (map (λ s. (s, environment s)) (filter p ss))
    ≡ flat_map (text_of_signal design level environment) ss
text_over design level environment p [] same = refl
text_over design level environment p (s ∷ ss) same =
    by_test (p s) (same s) (text_over design level environment p ss same)
  where
    by_test : (b : Bool) → b ≡ is_shown design level environment s
        → flat_map (pair_text design) (map (λ t. (t, environment t)) (filter p ss))
        ≡ flat_map (text_of_signal design level environment) ss
        → flat_map (pair_text design)
        (map (λ t. (t, environment t)) (cond b (s ∷ filter p ss) (filter p ss)))
        ≡ text_of_signal design level environment s
        ++ flat_map (text_of_signal design level environment) ss
    by_test true e rest =
        ap (λ b. cond b (pair_text design (s, environment s)) []
        ++ flat_map (pair_text design) (map (λ t. (t, environment t)) (filter p ss))) e
        ∙ ap (λ text. text_of_signal design level environment s ++ text) rest
    by_test false e rest =
        rest ∙ ap (λ b. cond b (pair_text design (s, environment s)) []
        ++ flat_map (text_of_signal design level environment) ss) e

all_kept : (ss : List ℕ) → filter (λ s. true) ss ≡ ss
all_kept [] = refl
all_kept (s ∷ ss) = ap (λ ts. s ∷ ts) (all_kept ss)

pub shown_text : (design : FlatDesign) (level : Option Point) (environment : Environment ℕ)
    → flat_map (pair_text design) (shown design level environment)
    ≡ flat_map (text_of_signal design level environment) (system_signals design)
shown_text design None environment =
    ap (λ ss. flat_map (pair_text design) (map (λ s. (s, environment s)) ss))
    (sym (all_kept (system_signals design)))
    ∙ text_over design None environment (λ s. true) (system_signals design) (λ s. refl)
shown_text design (Some level) environment =
    text_over design (Some level) environment
    (λ s. (flat_system design).flows ((flat_system design).label s environment) level)
    (system_signals design) (λ s. refl)

-- ---- environments that agree on the signals of the system

same_texts : (f g : ℕ → List ℕ) (ss : List ℕ) → ((s : ℕ) → Contains ss s → f s ≡ g s)
    → flat_map f ss ≡ flat_map g ss
same_texts f g [] same = refl
same_texts f g (s ∷ ss) same =
    ap (λ text. text ++ flat_map f ss) (same s (Contains-head s ss))
    ∙ ap (λ text. g s ++ text)
    (same_texts f g ss (λ t at. same t (Contains-later s ss t at)))

shown_agrees : (design : FlatDesign) → IsTrue (sound design) → IsAdmitted design
    → (level : Option Point) (first second : Environment ℕ)
    → ((t : ℕ) → Contains (system_signals design) t → first t ≡ second t)
    → (s : ℕ) → s < length design.signals
    → is_shown design level first s ≡ is_shown design level second s
shown_agrees design is admitted None first second same s inside = refl
shown_agrees design is admitted (Some level) first second same s inside =
    ap (λ (p : Point). flow_test design.lattice p.0 level.0)
    (label_selected design.maps (signal_of design.signals s).label first second
    (λ t at. same t (selector_is_seen design is admitted s
    (lt-ltb s (length design.signals) inside) t at)))

pub texts_agree : (design : FlatDesign) → IsTrue (sound design) → IsAdmitted design
    → (level : Option Point) (first second : Environment ℕ)
    → ((t : ℕ) → Contains (system_signals design) t → first t ≡ second t)
    → flat_map (text_of_signal design level first) (system_signals design)
    ≡ flat_map (text_of_signal design level second) (system_signals design)
texts_agree design is admitted level first second same =
    same_texts (text_of_signal design level first) (text_of_signal design level second)
    (system_signals design)
    (λ s at.
    ap (λ b. cond b (pair_text design (s, first s)) [])
    (shown_agrees design is admitted level first second same s
    (those_below (length design.signals) (λ t. not (is_clock design t)) s at))
    ∙ ap (λ v. cond (is_shown design level second s) (pair_text design (s, v)) []) (same s at))

-- ---- given values

keeps : (listed : List ℕ) (environment : Environment ℕ) (s old : ℕ) → old ≡ environment s
    → last_update ◌==◌ s old (zip listed (map environment listed)) ≡ environment s
keeps [] environment s old e = e
keeps (t ∷ ts) environment s old e =
    keeps ts environment s (cond (t == s) (environment t) old) (by_test (t == s) refl)
  where
    by_test : (b : Bool) → (t == s) ≡ b → cond b (environment t) old ≡ environment s
    by_test true same = ap environment (eqb-true t s same)
    by_test false other = e

gives : (listed : List ℕ) (environment : Environment ℕ) (s old : ℕ) → Contains listed s
    → last_update ◌==◌ s old (zip listed (map environment listed)) ≡ environment s
gives [] environment s old at = absurd (Contains-nil s at)
gives (t ∷ ts) environment s old at = ⊎_elim
    (λ is. keeps ts environment s (cond (t == s) (environment t) old)
    (ap (λ b. cond b (environment t) old) (eq-eqb t s is) ∙ ap environment is))
    (λ later. gives ts environment s (cond (t == s) (environment t) old) later)
    (Contains-cases t ts s at)

pub given_agrees : (listed values : List ℕ) (environment : Environment ℕ)
    → map environment listed ≡ values → (s : ℕ) → Contains listed s
    → given listed values s ≡ environment s
given_agrees listed values environment e s at =
    ap (λ vs. given listed vs s) (sym e) ∙ gives listed environment s 0 at

pub zeros_fit : (signals : List SignalForm) (values : List ℕ) (n : ℕ) → n ≡ length signals
    → values ≡ replicate n 0 → FitSignals signals values
zeros_fit signals values n count is = record {
  count = ap length is ∙ length-replicate n 0 ∙ count;
  each = λ s inside.
      subst (λ v. v < 2 ^ signal_width signals s)
      (sym (ap (λ vs. get_or vs s 0) is ∙ get_or-replicate n s 0 0 (omega arith)))
      (pow_pos (signal_width signals s));
}

pub zeros_are_zero : (values : List ℕ) (n : ℕ) → values ≡ replicate n 0 → (s : ℕ)
    → by_number values s ≡ 0
zeros_are_zero values n is s = ⊎_elim
    (λ inside. ap (λ vs. get_or vs s 0) is ∙ get_or-replicate n s 0 0 inside)
    (λ past. get_or_past values s 0 (omega (arith, ap length is, length-replicate {A = ℕ} n 0)))
    (cases_lt s n)

pub given_zeros : (listed values old : List ℕ) (n : ℕ) → old ≡ replicate n 0 → (s : ℕ)
    → with_given listed values (by_number old) s ≡ given listed values s
given_zeros listed values old n is s =
    ap (λ v. last_update ◌==◌ s v (zip listed values)) (zeros_are_zero old n is s)

-- ---- on what accessors give

pub readable_at : (flat : Flat) (signals : List Signal) (maps : List MapRows) (s : ℕ) (x : Signal)
    (values : List ℕ) → signals ≡ flat.signals.items → maps ≡ flat.maps.items
    → IsTrue (sound (design_of flat)) → s < length flat.signals.items
    → FitSignals (design_of flat).signals values
    → IsReadable maps (get_or signals s x).label values
readable_at flat signals maps s x values es em is inside fit =
    subst (λ ms. IsReadable ms (get_or signals s x).label values) (sym em)
    (subst (λ (ss : List Signal). IsReadable flat.maps.items (get_or ss s x).label values) (sym es)
    (subst (λ l. IsReadable flat.maps.items l values) (label_here flat.signals.items s x inside)
    (readable (design_of flat) values (signal_of (design_of flat).signals s).label fit
    (label_is_sound (design_of flat) is s
    (subst (λ n. s < n) (sym (length-map flat.signals.items signal_form)) inside)))))

pub point_at : (flat : Flat) (signals : List Signal) (maps : List MapRows) (s : ℕ) (x : Signal)
    (values : List ℕ) → signals ≡ flat.signals.items → maps ≡ flat.maps.items
    → IsTrue (sound (design_of flat)) → s < length flat.signals.items → 0 < length flat.lattice
    → (label_of maps (get_or signals s x).label values).0 < length flat.lattice
point_at flat signals maps s x values es em is inside some =
    subst (λ ms. (label_of ms (get_or signals s x).label values).0 < length flat.lattice) (sym em)
    (subst (λ (ss : List Signal).
    (label_of flat.maps.items (get_or ss s x).label values).0 < length flat.lattice) (sym es)
    (subst (λ l. (label_of flat.maps.items l values).0 < length flat.lattice)
    (label_here flat.signals.items s x inside)
    (label_point (design_of flat) is (signal_of (design_of flat).signals s).label values
    (label_is_sound (design_of flat) is s
    (subst (λ n. s < n) (sym (length-map flat.signals.items signal_form)) inside)) some)))

pub line_agrees : (design : FlatDesign) → IsTrue (sound design) → IsAdmitted design
    → (level : Option Point) (environment : Environment ℕ) (values table : List ℕ)
    → map environment (system_signals design) ≡ values
    → ((s : ℕ) → by_number table s ≡ given (system_signals design) values s)
    → flat_map (pair_text design) (shown design level (by_number table))
    ≡ flat_map (pair_text design) (shown design level environment)
line_agrees design is admitted level environment values table e g =
    shown_text design level (by_number table)
    ∙ texts_agree design is admitted level (by_number table) environment
    (λ t at. g t ∙ given_agrees (system_signals design) values environment e t at)
    ∙ sym (shown_text design level environment)
