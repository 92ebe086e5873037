use Rattle.std.proofs.Common.{◌≡◌, ◌<◌, ◌&&◌, ℕ, Bool, List, length, get_or, Option, Some, None}
use Rattle.std.proofs.Common.{true, false, ap₂, subst, sym, rules, tests, Bor}
use Rattle.std.proofs.iter.Yields.{fronts}
use Rattle.std.proofs.lemmas.Iterator.{zips}
use Rattle.std.proofs.lemmas.List.{get_or_default}
use Rattle.std.specs.Fn.{Called}
use Rattle.std.specs.Iterator.{FindsPosition}
use Rattle.std.specs.Iterator.Adapters.{zip_first, zip_second}
use Rattle.std.specs.Slice.Iter.{iter_rest}
use Rattle.std.specs.declared.iter.Zip.{Zip}
use Rattle.std.specs.declared.slice.Iter.{Iter}
use denote.Param.Members.{Mut}
use Rattle.sv_rules.specs.Tops.{both_have, FindsFirstOfBoth}
use Rattle.sv_rules.proofs.FirstPlaces.{IsFirstPlace, position_finds}
use Rattle.sv_rules.proofs.tops.first_of_both.Goals as goal

module _ (first second : List Bool) (same : length second ≡ length first) where
  at_place : (k : ℕ) (d : Bool × Bool) → k < length first
      → (get_or first k d.0 && get_or second k d.1) ≡ both_have first second k
  at_place k d inside =
      ap₂ (λ a b. a && b) (get_or_default first k d.0 false inside)
      (get_or_default second k d.1 false (subst (λ n. k < n) (sym same) inside))

  is_first : (o : Option ℕ) → IsFirstPlace (both_have first second) (length first) o →
      FindsFirstOfBoth first second o
  is_first None none = none
  is_first (Some i) found = record { within = found.0; has = found.1; before = found.2 }

  -- what `position` found, as the match on it has it
  found_first : {F : Type 0} {g : Mut F ((Bor Bool × Bor Bool) × Unit {0}) Bool}
      {s : Zip (Iter Bool) (Iter Bool)} (u : Zip (Iter Bool) (Iter Bool)) (f : F)
      (found : Option ℕ) {matched : Option ℕ} → found ≡ matched
      → FindsPosition (zips fronts fronts) g s f found u
      → iter_rest (zip_first s) ≡ first → iter_rest (zip_second s) ≡ second
      → ((p : Bor Bool × Bor Bool) (q : F) → Called g f (p, tt) true q
      → (p.0.now && p.1.now) ≡ true)
      → ((p : Bor Bool × Bor Bool) (q : F) → Called g f (p, tt) false q
      → (q ≡ f) × ((p.0.now && p.1.now) ≡ false))
      → FindsFirstOfBoth first second matched
  found_first u f found is ran of_first of_second passed failed =
      subst (FindsFirstOfBoth first second) is
      (is_first found
      (position_finds first second same (λ p. p.0 && p.1) (both_have first second) at_place u f
      found ran of_first of_second passed failed))

pub returns-in-Some : goal.returns-in-Some
returns-in-Some c =
    found_first c.args.first.now c.args.second.now c.requires.over c.position-found.new.self _
    c.position-found.result c.in-Some.is c.position-found.ensures.ran (cc) (cc)
    (λ x q k. search (rules, tests)) (λ x q k. search (rules, tests))

pub returns-in-None : goal.returns-in-None
returns-in-None c =
    found_first c.args.first.now c.args.second.now c.requires.over c.position-found.new.self _
    c.position-found.result c.in-None.is c.position-found.ensures.ran (cc) (cc)
    (λ x q k. search (rules, tests)) (λ x q k. search (rules, tests))
