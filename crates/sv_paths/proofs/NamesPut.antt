-- An expression that names nothing for which something is put stays as it is.
use Rattle.std.proofs.Common.{◌≡◌, ℕ, ◌-◌, ◌<◌, Bool, true, false, ◌&&◌, nat_le, List, [], ◌∷◌}
use Rattle.std.proofs.Common.{length, ⊎_elim, refl, sym, ap, subst, ◌∙◌}
use Rattle.std.specs.Prelude.{Contains, IsFalse}
use Rattle.std.specs.List.{list_any}
use Rattle.std.proofs.lemmas.Bool.{leb-false}
use Rattle.sv_system.proofs.Lists.{Contains-nil, Contains-cases}
use Rattle.sv_flat.specs.ByNumber.{signal_forms}
use Rattle.sv_flat.specs.declared.signals.Signal.{Signal}
use Rattle.sv_flat.specs.Design.{SignalForm, TypedTree}
use Rattle.sv_flat.specs.Readings.{ReadForm, reads}
use Rattle.sv_flat.proofs.SameRuns.{or_none_left, or_none_right}
use Rattle.sv_paths.specs.declared.exchange.Put.{Put}
use Rattle.sv_obl.specs.Exchange.{name, exchanged}
use Rattle.sv_paths.specs.PutIn.{put_for, is_put_for, is_put_at, names_put}
use Rattle.sv_obl.specs.Routes.{signals_of_reads}
use Rattle.sv_obl.specs.Wanted.{with_copies}
use Rattle.sv_paths.proofs.ExchangeFacts.{stays_settled, stays_wanted}
use Rattle.sv_obl.proofs.RouteNames.{names_alike}
use Rattle.sv_obl.proofs.Unchanged.{exchanged_itself}

-- where no name passes a test, that of no read does
none_at : (p : ℕ → Bool) (rs : List ReadForm) → IsFalse (list_any p (signals_of_reads rs))
    → (r : ReadForm) → Contains rs r → IsFalse (p r.signal)
none_at p [] none r at = absurd (Contains-nil r at)
none_at p (q ∷ rs) none r at =
    let rest = list_any p (signals_of_reads rs) in
    ⊎_elim
    (λ is. subst (λ (x : ReadForm). IsFalse (p x.signal)) is (or_none_left (p q.signal) rest none))
    (λ later. none_at p rs (or_none_right (p q.signal) rest none) r later)
    (Contains-cases q rs r at)

module _ (items : List Signal) (put : Put) where
  abbrev forms : List SignalForm
  forms = signal_forms items

  abbrev both : List SignalForm
  both = with_copies forms

  wanted_alone : (r : ReadForm) (c : Bool) → nat_le (length items) r.signal ≡ c
      → IsFalse (c && is_put_for put (r.signal - length items))
      → put_for forms put r ≡ name r.signal
  wanted_alone r true is none = sym (stays_wanted items r put (r.signal - length items) refl none)
  wanted_alone r false is none =
      let below : r.signal < length items = leb-false (length items) r.signal is in
      sym (stays_settled items r put below)

  pub stays : (count : ℕ) (t : TypedTree) → count ≡ length items → IsFalse (names_put count put t)
      → t ≡ exchanged both (put_for forms put) t
  stays count t many none =
      let n = length items in
      let here : IsFalse (names_put n put t) =
      ap (λ k. names_put k put t) (sym many) ∙ none in
      sym (exchanged_itself both (put_for forms put) t (λ r at.
      wanted_alone r (nat_le n r.signal) refl
      (none_at (is_put_at n put) (reads both t)
      (ap (list_any (is_put_at n put)) (names_alike [] both t) ∙ here) r at)))
