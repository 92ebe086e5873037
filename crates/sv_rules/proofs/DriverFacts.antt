-- The drivers of a list of processes.
use Rattle.std.proofs.Common.{◌≡◌, ℕ, ◌+◌, ◌<◌, ◌≤◌, ◌&&◌, nat_le, nat_lt, Bool, true, false}
use Rattle.std.proofs.Common.{cond, not, List, [], ◌∷◌, ◌++◌}
use Rattle.std.proofs.Common.{length, map, Option, None, get_or, Some, refl, sym, ap, ap₂, subst}
use Rattle.std.proofs.Common.{◌∙◌, arith, append_assoc, zero-add}
use Rattle.std.specs.Prelude.{IsTrue, filter, slice_get, option_map, is_none}
use Rattle.std.proofs.lemmas.List.{get_or-map}
use Rattle.std.proofs.Math.ListN.{length-map}
use Rattle.sv_flat.specs.declared.designs.Flat.{Flat}
use Rattle.sv_flat.specs.declared.signals.Signal.{Signal}
use Rattle.sv_flat.specs.Breaches.{breach}
use Rattle.sv_flat.specs.Drivers.{driver_fault}
use Rattle.sv_flat.specs.Values.{signal_of, signal_width}
use Rattle.sv_flat.specs.Soundness.{sound}
use Rattle.sv_flat.specs.Views.{design_of, signal_form}
use Rattle.std.proofs.lemmas.List.{append-nil}
use Rattle.std.proofs.lemmas.List.Elements.{filter-append}
use Rattle.std.proofs.lemmas.Option.{slice_get-map}
use Rattle.sv_num.specs.declared.faults.Place.{Place}
use Rattle.sv_flat.specs.Design.{SignalForm, ProcessForm, FlatDesign}
use Rattle.sv_flat.specs.Assigned.{assigns}
use Rattle.sv_flat.specs.Clocks.{is_clock, is_clock_link, processes_of}
use Rattle.sv_flat.specs.Processes.{drivers, is_top_input, is_top_kind}
use Rattle.sv_graph.specs.BitSets.{is_set}
use Rattle.sv_rules.specs.declared.drivers.Driver.{Driver}
use Rattle.sv_rules.specs.declared.drivers.Drivers.{Drivers}
use Rattle.sv_rules.specs.DriverTables.{driver_at, entries, and_one, first_at, second_at, AreBelow}
use Rattle.sv_rules.specs.DriverTables.{AreDrivers, AreDriversOf, AreClocks, Notes, kept_of}
use Rattle.sv_rules.proofs.ClockLinks.{at_table, clocks_count}
use Rattle.sv_rules.proofs.NoteFacts.{same_drivers}
use Rattle.sv_rules.proofs.Sound.{few_bits, some_width}

push_on : (b a : Bool) (d e : Driver) (xs : List Driver)
    → cond b (d ∷ and_one e a xs) (and_one e a xs) ≡ and_one e a (cond b (d ∷ xs) xs)
push_on true a d e xs = refl
push_on false a d e xs = refl

entries_push : (k m : ℕ) (ps : List ProcessForm) (p : ProcessForm) (s : ℕ) → m ≡ k + length ps
    → entries k (ps ++ p ∷ []) s ≡ and_one (driver_at m p) (assigns p.body s) (entries k ps s)
entries_push k m [] p s is =
    let same : k ≡ m = omega arith in
    ap (λ j. cond (assigns p.body s) (driver_at j p ∷ []) []) same
entries_push k m (q ∷ ps) p s is =
    let rest : m ≡ k + 1 + length ps = omega arith in
    ap (λ xs. cond (assigns q.body s) (driver_at k q ∷ xs) xs) (entries_push (k + 1) m ps p s rest)
    ∙ push_on (assigns q.body s) (assigns p.body s) (driver_at k q) (driver_at m p)
    (entries (k + 1) ps s)

below_cons : (b : Bool) (m : ℕ) (d : Driver) (xs : List Driver) → d.process < m → AreBelow m xs →
    AreBelow m (cond b (d ∷ xs) xs)
below_cons true m d xs h below = (h, below)
below_cons false m d xs h below = below

entries_below : (k m : ℕ) (ps : List ProcessForm) (s : ℕ) → m ≡ k + length ps →
    AreBelow m (entries k ps s)
entries_below k m [] s is = tt
entries_below k m (q ∷ ps) s is =
    below_cons (assigns q.body s) m (driver_at k q) (entries (k + 1) ps s) (omega arith)
    (entries_below (k + 1) m ps s (omega arith))

-- one process more
pub drivers_more : (n : ℕ) (old new : Drivers) (ps : List ProcessForm) (p : ProcessForm)
    (d : Driver) → d ≡ driver_at (length ps) p
    → AreDrivers n old (entries 0 ps) → Notes n d old new (assigns p.body)
    → AreDrivers n new (entries 0 (ps ++ p ∷ []))
drivers_more n old new ps p d is are notes =
    same_drivers n new (λ s.
    and_one d (assigns p.body s) (entries 0 ps s)) (entries 0 (ps ++ p ∷ []))
    (λ s. ap (λ e. and_one e (assigns p.body s) (entries 0 ps s)) is
    ∙ sym (entries_push 0 (length ps) ps p s (sym (zero-add (length ps)))))
    (notes (entries 0 ps) (λ s. false)
    (λ s. subst (λ e. AreBelow e.process (entries 0 ps s)) (sym is)
    (entries_below 0 (length ps) ps s (sym (zero-add (length ps)))))
    (same_drivers n old (entries 0 ps) (λ s. and_one d false (entries 0 ps s)) (λ s.
    sym (append-nil (entries 0 ps s))) are))

module _ (design : FlatDesign) where
  one_kept : (b : Bool) (p : ProcessForm) → b ≡ false → cond (not b) (p ∷ []) [] ≡ p ∷ []
  one_kept true p e = ap (λ t. cond (not t) (p ∷ []) []) e
  one_kept false p e = refl

  pub is_kept : (ps : List ProcessForm) (p : ProcessForm) → is_clock_link design p ≡ false →
      ps ++ kept_of design (p ∷ []) ≡ ps ++ p ∷ []
  is_kept ps p e = ap (λ qs. ps ++ qs) (one_kept (is_clock_link design p) p e)

  pub kept_more : (all ps rest : List ProcessForm) (p : ProcessForm)
      → all ≡ ps ++ kept_of design (p ∷ rest)
      → all ≡ (ps ++ kept_of design (p ∷ [])) ++ kept_of design rest
  kept_more all ps rest p e =
      e ∙ ap (λ qs. ps ++ qs) (filter-append (λ q. not (is_clock_link design q)) (p ∷ []) rest)
      ∙ sym (append_assoc ps (kept_of design (p ∷ [])) (kept_of design rest))

-- ---- the rules

module _ {Y : Type 0} (f : Place → Y) where
  one_place : (b : Bool) (d : Driver) (p : ProcessForm) (xs : List Driver) (ys : List ProcessForm)
      → d.place ≡ p.place
      → map (λ (e : Driver). f e.place) xs ≡ map (λ (q : ProcessForm). f q.place) ys
      → map (λ (e : Driver). f e.place) (cond b (d ∷ xs) xs) ≡ map (λ (q : ProcessForm).
      f q.place) (cond b (p ∷ ys) ys)
  one_place true d p xs ys same rest = ap₂ (λ y zs. f y ∷ zs) same rest
  one_place false d p xs ys same rest = rest

  same_places : (k : ℕ) (ps : List ProcessForm) (s : ℕ)
      → map (λ (e : Driver). f e.place) (entries k ps s) ≡ map (λ (q : ProcessForm).
      f q.place) (drivers ps s)
  same_places k [] s = refl
  same_places k (p ∷ ps) s =
      one_place (assigns p.body s) (driver_at k p) p (entries (k + 1) ps s) (drivers ps s) refl
      (same_places (k + 1) ps s)

  pub same_driver : (ps : List ProcessForm) (s j : ℕ)
      → option_map (λ (e : Driver). f e.place) (slice_get (entries 0 ps s) j) ≡
      option_map (λ (q : ProcessForm). f q.place) (slice_get (drivers ps s) j)
  same_driver ps s j =
      sym (slice_get-map (λ (e : Driver). f e.place) (entries 0 ps s) j)
      ∙ ap (λ ys. slice_get ys j) (same_places 0 ps s)
      ∙ slice_get-map (λ (q : ProcessForm). f q.place) (drivers ps s) j

module _ (design : FlatDesign) (tables : Drivers) (are : AreDriversOf design tables) (s : ℕ)
    (inside : s < length design.signals) where
  picked : (top : Bool) →
      option_map (λ (e : Driver).
      breach 603 e.place s) (cond top (first_at tables s) (second_at tables s))
      ≡ option_map (λ (p : ProcessForm).
      breach 603 p.place s) (slice_get (drivers (processes_of design) s) (cond top 0 1))
  picked true =
      ap (option_map (λ (e : Driver). breach 603 e.place s)) (are.first_is s inside)
      ∙ same_driver (λ p. breach 603 p s) (processes_of design) s 0
  picked false =
      ap (option_map (λ (e : Driver). breach 603 e.place s)) (are.second_is s inside)
      ∙ same_driver (λ p. breach 603 p s) (processes_of design) s 1

  pub fault_is : (top : Bool) → top ≡ is_top_input design s
      → option_map (λ (e : Driver).
      breach 603 e.place s) (cond top (first_at tables s) (second_at tables s)) ≡
      driver_fault design s
  fault_is top is =
      picked top ∙ ap (λ t.
      option_map (λ (p : ProcessForm).
      breach 603 p.place s) (slice_get (drivers (processes_of design) s) (cond t 0 1))) is

  pub none_is : is_none (first_at tables s) ≡
      is_none (slice_get (drivers (processes_of design) s) 0)
  none_is =
      ap is_none (are.first_is s inside)
      ∙ sym (none_mapped (λ (e : Driver).
      e.place) (slice_get (entries 0 (processes_of design) s) 0))
      ∙ ap is_none (same_driver (λ p. p) (processes_of design) s 0)
      ∙ none_mapped (λ (p : ProcessForm). p.place) (slice_get (drivers (processes_of design) s) 0)
    where
      none_mapped : {X Y : Type 0} (f : X → Y) (o : Option X) → is_none (option_map f o) ≡ is_none o
      none_mapped f None = refl
      none_mapped f (Some x) = refl

-- ---- signals one after the other

-- the signal at a place of a design's vector
pub signal_at : (flat : Flat) (items : List Signal) (i : ℕ) (signal : Signal)
    → items ≡ flat.signals.items → i < length items
    → signal ≡ get_or items i signal → signal_of (design_of flat).signals i ≡ signal_form signal
signal_at flat items i signal same inside is =
    ap (λ xs. signal_of (map signal_form xs) i) (sym same)
    ∙ get_or-map signal_form items i signal _ inside
    ∙ ap signal_form (sym is)

pub inside_design : (flat : Flat) (items : List Signal) (i : ℕ) → items ≡ flat.signals.items →
    i < length items → i < length (design_of flat).signals
inside_design flat items i same inside =
    rw length-map (subst (λ (xs : List Signal). i < length xs) same inside)

-- the signal has the width that the design says, from 1 to 64 bits
module _ (flat : Flat) (items : List Signal) (s : ℕ) (signal : Signal)
    (same : items ≡ flat.signals.items) (inside : s < length items)
    (is : signal ≡ get_or items s signal) where
  pub width_at : signal_width (design_of flat).signals s ≡ signal.width
  width_at = ap (λ (form : SignalForm). form.width) (signal_at flat items s signal same inside is)

  pub some_bits_at : IsTrue (sound (design_of flat)) → 1 ≤ signal.width
  some_bits_at is_sound = subst (λ n. 1 ≤ n) width_at
      (some_width (design_of flat) is_sound s (inside_design flat items s same inside))

  pub few_bits_at : IsTrue (sound (design_of flat)) → signal.width ≤ 64
  few_bits_at is_sound = subst (λ n. n ≤ 64) width_at
      (few_bits (design_of flat) is_sound s (inside_design flat items s same inside))

-- the signal of a read
module _ (flat : Flat) (s : ℕ) (signal : Signal) (inside : s < length flat.signals.items)
    (is : signal ≡ get_or flat.signals.items s signal) where
  pub few_at : IsTrue (sound (design_of flat)) → signal.width ≤ 64
  few_at is_sound = few_bits_at flat flat.signals.items s signal refl inside is is_sound

  -- the bits that are read of it
  pub bits_at : (low high bits : ℕ)
      → ((b : ℕ) → is_set bits b ≡ (nat_le low b && nat_le b high && nat_lt b signal.width))
      → (b : ℕ) → is_set bits b
      ≡ (nat_le low b && nat_le b high && nat_lt b (signal_width (design_of flat).signals s))
  bits_at low high bits are b =
      are b ∙ ap (λ (form : SignalForm).
      nat_le low b && nat_le b high && nat_lt b form.width)
      (sym (signal_at flat flat.signals.items s signal refl inside is))

-- a table of clocks has a place for it
pub clock_at : (flat : Flat) {items : List Signal} {clocks : List Bool} {i : ℕ}
    → items ≡ flat.signals.items → i < length items → AreClocks (design_of flat) clocks
    → i < length clocks
clock_at flat {items} {clocks} {i} same inside are =
    subst (λ n. i < n) (sym (clocks_count (design_of flat) clocks are))
    (inside_design flat items i same inside)

-- what is made of whether the signal is an input of the top module and whether it is a clock, by its
-- kind and by a table of clocks
pub top_and_clock : {Y : Type 0} (make : Bool → Bool → Y) (flat : Flat) (items : List Signal)
    (clocks : List Bool) (i : ℕ) (signal : Signal) (top : Bool)
    → items ≡ flat.signals.items → i < length items → signal ≡ get_or items i signal
    → AreClocks (design_of flat) clocks → top ≡ is_top_kind signal.kind
    → make top (get_or clocks i false)
    ≡ make (is_top_input (design_of flat) i) (is_clock (design_of flat) i)
top_and_clock make flat items clocks i signal top same inside is are is_top =
    ap₂ make (is_top
    ∙ ap (λ (form : SignalForm). is_top_kind form.kind)
    (sym (signal_at flat items i signal same inside is)))
    (at_table (design_of flat) clocks are i (inside_design flat items i same inside))
