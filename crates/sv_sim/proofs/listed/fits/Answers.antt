use Rattle.std.proofs.Common.{◌≡◌, ℕ, ◌<◌, ◌^◌, Bool, true, false, List, length, get_or}
use Rattle.std.proofs.Common.{refl, sym, ap, ap₂, subst, ◌∙◌, arith, rules, tests}
use Rattle.std.specs.Bool.{MatchBool}
use Rattle.std.specs.List.{zip, AllWithin, HoldsAt}
use Rattle.std.specs.Prelude.{IsTrue, ◌↔◌, slice_index}
use Rattle.std.proofs.lemmas.Bool.{false≢true}
use Rattle.std.proofs.lemmas.Iterator.{YieldsList-from_slice, YieldsList-from_zip, cases_from_all}
use Rattle.std.proofs.lemmas.Iterator.Adapters.{serves_from_places}
use Rattle.std.proofs.lemmas.List.{get_or-map, get_or_default, length-map}
use Rattle.std.proofs.lemmas.Slice.Zip.{length-zip, get_or-zip}
use Rattle.sv_flat.specs.declared.signals.SigId.{SigId}
use Rattle.sv_flat.specs.Design.{SignalForm}
use Rattle.sv_flat.specs.ByNumber.{signal_forms}
use Rattle.sv_flat.specs.Values.{signal_width}
use Rattle.sv_design.specs.Numbers.{numbers}
use Rattle.sv_flat.specs.Given.{FitListed}
use Rattle.sv_sim.proofs.listed.fits.Goals as goal

-- a value and the number of its signal
abbrev numbered : ℕ × SigId → ℕ × ℕ
numbered p = (p.0, p.1.0)

abbrev no_pair : ℕ × SigId
no_pair = (0, record { 0 = 0 })

module _ (values : List ℕ) (listed : List SigId) (same : length values ≡ length listed) where
  size : length (zip values listed) ≡ length listed
  size = let both = length-zip values listed in omega arith

  pair_at : (k : ℕ) (d : ℕ × SigId) → k < length listed
      → numbered (get_or (zip values listed) k d)
      ≡ (slice_index values k, slice_index (numbers listed) k)
  pair_at k d inside =
      let has_value : k < length values = omega arith in
      ap numbered (get_or-zip values listed k d has_value inside)
      ∙ ap₂ (λ value number. (value, number)) (get_or_default values k d.0 0 has_value)
      (sym (get_or-map (λ (s : SigId). s.0) listed k d.1 0 inside))

  module _ (signals : List SignalForm) where
    abbrev pair_fits : ℕ × ℕ → Type 0
    pair_fits p = p.0 < 2 ^ signal_width signals p.1

    -- what `all` tells of the pairs, told of the places
    of_places : (told : Bool)
        → MatchBool told
        (AllWithin (λ p. pair_fits (numbered p)) (zip values listed) 0 (length (zip values listed)))
        ((k : ℕ) × (k < length (zip values listed))
        × HoldsAt (λ p. pair_fits (numbered p) → ⊥) (zip values listed) k)
        → IsTrue told ↔ FitListed signals (numbers listed) values
    of_places true each = (
      (λ yes. record {
        count = same ∙ sym (length-map listed (λ (s : SigId). s.0));
        each = λ k small.
            let inside = subst (λ n. k < n) (length-map listed (λ (s : SigId). s.0)) small in
            subst pair_fits (pair_at k no_pair inside)
            (each k no_pair (omega arith) (subst (λ n. k < n) (sym size) inside));
      }),
      (λ fit. refl),
    )
    of_places false (k, small, wide) = (
      (λ yes. absurd (false≢true yes)),
      (λ fit.
          let inside = subst (λ n. k < n) size small in
          absurd (wide no_pair (subst pair_fits (sym (pair_at k no_pair inside))
          (fit.each k
          (subst (λ n. k < n) (sym (length-map listed (λ (s : SigId). s.0))) inside))))),
    )

pub all-requires-clause-callable : goal.all-requires-clause-callable
all-requires-clause-callable c =
    let values = c.args.values.now in
    let listed = c.args.listed.now in
    let same : length values ≡ length listed = search (rules, tests) in
    serves_from_places
    (YieldsList-from_zip (YieldsList-from_slice values cc) (YieldsList-from_slice listed cc))
    (λ x q k. search rules)
    (λ x k small is.
    let inside = subst (λ n. k < n) (size values listed same) small in
    let at = ap numbered is ∙ pair_at values listed same k (x.0.now, x.1.now) inside in
    let known = subst (λ (p : ℕ × ℕ). p.1 < length c.args.signals.now) (sym at)
    (c.requires k inside) in
    search (rules, known))

pub returns-then-values-listed : goal.returns-then-values-listed
returns-then-values-listed c =
    let values = c.args.values.now in
    let listed = c.args.listed.now in
    let forms = signal_forms c.args.signals.now in
    let same : length values ≡ length listed = search (rules, tests) in
    of_places values listed same forms c.all.result
    (cases_from_all c.all.new.self _ c.all.result
    (λ p. pair_fits values listed same forms (numbered p))
    (λ p. pair_fits values listed same forms (numbered p) → ⊥) c.all.ensures.ran
    (YieldsList-from_zip (YieldsList-from_slice values cc) (YieldsList-from_slice listed cc))
    (λ x q k. search (rules, tests)) (λ x q k. search (rules, tests)))
