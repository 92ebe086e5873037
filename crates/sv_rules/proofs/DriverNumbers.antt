-- The number of each signal's first driver is the place of the process that assigns it.
use Rattle.std.proofs.Common.{◌≡◌, ℕ, zero, suc, ◌+◌, ◌<◌, Bool, true, false, cond, List, [], ◌∷◌}
use Rattle.std.proofs.Common.{◌++◌, length, map, get_or, Option, Some, None, refl, sym, ap, subst}
use Rattle.std.proofs.Common.{◌∙◌, arith, add-one, zero-add}
use Rattle.std.specs.Prelude.{option_map, slice_get}
use Rattle.std.specs.List.{range_with_len, position_from}
use Rattle.std.proofs.lemmas.Iterator.Adapters.{position_from-zero}
use Rattle.std.proofs.lemmas.List.FromFn.{map-range_with_len_more}
use Rattle.sv_flat.specs.Assigned.{assigns}
use Rattle.sv_flat.specs.Clocks.{processes_of}
use Rattle.sv_flat.specs.Design.{ProcessForm, FlatDesign}
use Rattle.sv_flat.specs.Processes.{signal_numbers}
use Rattle.sv_flat.specs.SignalLists.{driver_of}
use Rattle.sv_rules.specs.declared.drivers.Driver.{Driver}
use Rattle.sv_rules.specs.declared.drivers.Drivers.{Drivers}
use Rattle.sv_rules.specs.DriverTables.{driver_at, entries, first_at, AreDriversOf}

abbrev number : Option Driver → Option ℕ
number driver = option_map (λ (d : Driver). d.process) driver

first_number : (b : Bool) (k : ℕ) (d : Driver) (ds : List Driver) (rest : Option ℕ) → d.process ≡ k
    → number (slice_get ds 0) ≡ rest
    → number (slice_get (cond b (d ∷ ds) ds) 0) ≡ cond b (Some k) rest
first_number true k d ds rest is same = ap Some is
first_number false k d ds rest is same = same

numbers_from : (k : ℕ) (ps : List ProcessForm) (s : ℕ) →
    number (slice_get (entries k ps s) 0) ≡ position_from (λ (p : ProcessForm).
    assigns p.body s) k ps
numbers_from k [] s = refl
numbers_from k (p ∷ ps) s =
    first_number (assigns p.body s) k (driver_at k p) (entries (k + 1) ps s)
    (position_from (λ (q : ProcessForm). assigns q.body s) (k + 1) ps) refl
    (numbers_from (k + 1) ps s)

same_below : {Y : Type 0} (f g : ℕ → Y) (n : ℕ) → ((s : ℕ) → s < n → f s ≡ g s) →
    map f (range_with_len 0 n) ≡ map g (range_with_len 0 n)
same_below f g zero same = refl
same_below f g (suc n) same =
    let more = λ (h : ℕ → _). map-range_with_len_more h 0 n n (zero-add n) in
    subst (λ k. map f (range_with_len 0 k) ≡ map g (range_with_len 0 k)) (add-one n)
    (more f ∙ ap (λ ys. ys ++ f n ∷ []) (same_below f g n (λ s below. same s (omega arith)))
    ∙ ap (λ y. map g (range_with_len 0 n) ++ y ∷ []) (same n (omega arith)) ∙ sym (more g))

pub numbers_are : (design : FlatDesign) (tables : Drivers) → AreDriversOf design tables
    → map (λ s. number (first_at tables s)) (range_with_len 0 (length design.signals)) ≡
    map (driver_of design) (signal_numbers design)
numbers_are design tables are =
    same_below (λ s. number (first_at tables s)) (driver_of design) (length design.signals)
    (λ s below. ap number (are.first_is s below)
    ∙ numbers_from 0 (processes_of design) s
    ∙ sym (position_from-zero (λ (p : ProcessForm). assigns p.body s) (processes_of design)))

-- one number more
pub number_more : (first : List (Option Driver)) (i : ℕ) (old new : List (Option ℕ))
    (value : Option ℕ) → value ≡ number (get_or first i None)
    → new ≡ old ++ value ∷ [] → old ≡ map (λ s. number (get_or first s None)) (range_with_len 0 i)
    → new ≡ map (λ s. number (get_or first s None)) (range_with_len 0 (i + 1))
number_more first i old new value is gains before =
    gains ∙ ap (λ v. old ++ v ∷ []) is
    ∙ ap (λ ys. ys ++ number (get_or first i None) ∷ []) before
    ∙ sym (map-range_with_len_more (λ s. number (get_or first s None)) 0 i i (zero-add i))

pub numbers_end : (design : FlatDesign) (tables : Drivers) (first : List (Option Driver)) (i : ℕ)
    (out : List (Option ℕ)) → AreDriversOf design tables
    → first ≡ tables.first.items → i ≡ length first
    → out ≡ map (λ s. number (get_or first s None)) (range_with_len 0 i)
    → out ≡ map (driver_of design) (signal_numbers design)
numbers_end design tables first i out are same all is =
    is
    ∙ ap (λ n. map (λ s. number (get_or first s None)) (range_with_len 0 n)) (all ∙ ap length same
    ∙ are.first_size)
    ∙ ap (λ ds. map (λ s. number (get_or ds s None)) (range_with_len 0 (length design.signals)))
    same
    ∙ numbers_are design tables are
