-- Rounds of two joined systems: under the same draws they lead to environments that agree, and both
-- come to rest after as many.
use Rattle.std.proofs.Common.{◌≡◌, ℕ, zero, suc, ◌<◌, ◌^◌, Bool, cond, List, []}
use Rattle.std.proofs.Common.{◌∷◌, map, length, refl, sym, ap, ap₂, subst, ◌∙◌, ◌&&◌, ⊎_elim}
use Rattle.std.specs.Prelude.{◌==◌, Contains, IsTrue, All, ◌↔◌}
use Rattle.std.specs.List.{list_all, AllZip}
use Rattle.std.proofs.lemmas.Bool.{cases_Bool, cond-true, cond-false}
use Rattle.std.proofs.lemmas.Nat.{pow_pos}
use Rattle.sv_system.specs.System.{System, Environment, Run, Fits}
use Rattle.sv_system.specs.Joining.{Agree, SameRun, Joined}
use Rattle.sv_system.specs.Schedules.{after_runs, runs_at}
use Rattle.sv_system.proofs.Lists.{Contains-head, Contains-later}
use Rattle.sv_system.proofs.JoinedCycles.{by_name}
use Rattle.sv_system.proofs.Pointwise.{fits_at, fits_from}
use Rattle.sv_flat.specs.Schedules.{round}
use Rattle.sv_elab_laws.specs.Rounds.{is_quiet_in, drawn_after, after_rounds_in, IsRoundCountIn}
use Rattle.sv_elab_laws.specs.Rounds.{inputs_put, registers_put, SameGiven}
use Rattle.sv_elab_laws.proofs.JoinedSchedules.{RunsKeepFits, schedules_agree}
use Rattle.sv_elab_laws.proofs.PartsLists.{zip_length}

from_all : {X : Type 0} (P : X → Type 0) (xs : List X) (x : X) → All P xs → Contains xs x → P x
from_all P xs x all at = subst P at.2 (all at.0 x at.1)

module _ {Signal Point Other OtherPoint : Type 0} (first : System Signal Point)
    (second : System Other OtherPoint)
    (joined : Joined first second) (keeps : RunsKeepFits first) where
  abbrev to : Signal → Other
  to = joined.to

  abbrev AgreeOn : Environment Signal → Environment Other → Type 0
  AgreeOn e f = Agree first second to e f

  abbrev Same : Run Signal → Run Other → Type 0
  Same run other = SameRun first second to run other

  -- where values agree and fit in the first system, environments agree
  pub agree_from : (e : Environment Signal) (f : Environment Other) → Fits first e
      → ((s : Signal) → Contains first.signals s → e s ≡ f (to s)) → AgreeOn e f
  agree_from e f fits same = record {
    first_fits = fits;
    second_fits =
        fits_from second f
        (by_name first second joined (λ t. f t < 2 ^ second.width t)
        (λ s within. subst (λ w. f (to s) < 2 ^ w) (joined.widths s within)
        (subst (λ v. v < 2 ^ first.width s) (same s within) (fits_at first e fits s within))));
    same = same;
  }

  -- ---- rest

  module _ (e : Environment Signal) (f : Environment Other) (agree : AgreeOn e f) where
    abbrev changes_none : Run Signal → List Signal → Bool
    changes_none run xs = list_all (λ s. run e s == e s) xs

    abbrev changes_no_other : Run Other → List Other → Bool
    changes_no_other other ts = list_all (λ t. other f t == f t) ts

    signals_alike : (run : Run Signal) (other : Run Other) → Same run other → (xs : List Signal)
        → ((s : Signal) → Contains xs s → Contains first.signals s)
        → changes_none run xs ≡ changes_no_other other (map to xs)
    signals_alike run other same [] listed = refl
    signals_alike run other same (s ∷ xs) listed =
        let within = listed s (Contains-head s xs) in
        ap₂ (λ a b. a && b)
        (ap₂ (λ m n. m == n) (same.same e f agree s within) (agree.same s within))
        (signals_alike run other same xs (λ t at. listed t (Contains-later s xs t at)))

    runs_alike : (runs : List (Run Signal)) (others : List (Run Other)) → AllZip Same runs others
        → list_all (λ run. changes_none run first.signals) runs
        ≡ list_all (λ other. changes_no_other other second.signals) others
    runs_alike [] [] h = refl
    runs_alike [] (o ∷ others) h = absurd h
    runs_alike (r ∷ runs) [] h = absurd h
    runs_alike (r ∷ runs) (o ∷ others) h =
        ap₂ (λ a b. a && b)
        (signals_alike r o h.0 first.signals (λ s at. at)
        ∙ ap (changes_no_other o) (sym joined.signals))
        (runs_alike runs others h.1)

    pub quiet_alike : is_quiet_in first e ≡ is_quiet_in second f
    quiet_alike = runs_alike first.processes second.processes joined.processes

  -- ---- rounds

  abbrev count : ℕ
  count = length first.processes

  sizes : length first.processes ≡ length second.processes
  sizes = zip_length Same first.processes second.processes joined.processes

  pub rounds_agree : (number k : ℕ) (e : Environment Signal) (f : Environment Other)
      → AgreeOn e f
      → AgreeOn (after_rounds_in first number k e) (after_rounds_in second number k f)
  rounds_agree number zero e f agree = agree
  rounds_agree number (suc k) e f agree =
      let before = rounds_agree number k e f agree in
      let earlier = after_rounds_in first number k e in
      let other = after_rounds_in second number k f in
      subst (λ n. AgreeOn (after_runs (runs_at first (round count
      (drawn_after count number k)).order) earlier)
      (after_runs (runs_at second (round n (drawn_after n number k)).order) other)) sizes
      (schedules_agree first second joined keeps (round count (drawn_after count number k)).order
      earlier other before)

  pub quiet_after : (number k : ℕ) (e : Environment Signal) (f : Environment Other) → AgreeOn e f
      → is_quiet_in first (after_rounds_in first number k e)
      ≡ is_quiet_in second (after_rounds_in second number k f)
  quiet_after number k e f agree =
      quiet_alike (after_rounds_in first number k e) (after_rounds_in second number k f)
      (rounds_agree number k e f agree)

  pub counts_alike : (number k : ℕ) (e : Environment Signal) (f : Environment Other) → AgreeOn e f
      → IsRoundCountIn first number e k ↔ IsRoundCountIn second number f k
  counts_alike number k e f agree = (
    λ is. record {
      some = is.some;
      quiet = sym (quiet_after number k e f agree) ∙ is.quiet;
      before = λ m some less. sym (quiet_after number m e f agree) ∙ is.before m some less;
    },
    λ is. record {
      some = is.some;
      quiet = quiet_after number k e f agree ∙ is.quiet;
      before = λ m some less. quiet_after number m e f agree ∙ is.before m some less;
    },
  )

  -- ---- given values

  module _ (kind : Signal → Bool) (other_kind : Other → Bool)
      (kinds : (s : Signal) → Contains first.signals s → kind s ≡ other_kind (to s))
      (values e : Environment Signal) (others f : Environment Other)
      (given : SameGiven first to kind values others) where
    given_agree : Fits first e → ((s : Signal) → Contains first.signals s → e s ≡ f (to s))
        → AgreeOn (λ s. cond (kind s) (values s) (e s))
        (λ t. cond (other_kind t) (others t) (f t))
    given_agree fits same =
        agree_from (λ s. cond (kind s) (values s) (e s))
        (λ t. cond (other_kind t) (others t) (f t))
        (fits_from first (λ s. cond (kind s) (values s) (e s)) (λ s within. ⊎_elim
        (λ is. subst (λ v. v < 2 ^ first.width s) (sym (cond-true (kind s) (values s) (e s) is))
        (from_all (λ x. IsTrue (kind x) → values x < 2 ^ first.width x) first.signals s given.fits
        within is))
        (λ other. subst (λ v. v < 2 ^ first.width s)
        (sym (cond-false (kind s) (values s) (e s) other)) (fits_at first e fits s within))
        (cases_Bool (kind s))))
        (λ s within.
        let right : cond (kind s) (others (to s)) (f (to s)) ≡
        cond (other_kind (to s)) (others (to s)) (f (to s)) =
        ap (λ b. cond b (others (to s)) (f (to s))) (kinds s within) in
        ⊎_elim
        (λ is. cond-true (kind s) (values s) (e s) is ∙ given.same s is
        ∙ sym (cond-true (kind s) (others (to s)) (f (to s)) is) ∙ right)
        (λ other. cond-false (kind s) (values s) (e s) other ∙ same s within
        ∙ sym (cond-false (kind s) (others (to s)) (f (to s)) other) ∙ right)
        (cases_Bool (kind s)))

  pub inputs_agree : (i : Environment Signal) (p : Environment Other)
      → SameGiven first to first.is_input i p
      → (e : Environment Signal) (f : Environment Other) → AgreeOn e f
      → AgreeOn (inputs_put first i e) (inputs_put second p f)
  inputs_agree i p given e f agree =
      given_agree first.is_input second.is_input joined.inputs i e p f given agree.first_fits
      agree.same

  pub registers_agree : (r : Environment Signal) (q : Environment Other)
      → SameGiven first to first.is_register r q
      → AgreeOn (registers_put first r) (registers_put second q)
  registers_agree r q given =
      given_agree first.is_register second.is_register joined.registers r (λ s. 0) q (λ t. 0)
      given (fits_from first (λ s. 0) (λ s within. pow_pos (first.width s))) (λ s within. refl)
