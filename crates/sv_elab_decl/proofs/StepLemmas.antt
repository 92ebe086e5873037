-- Where the walk of one declaration ends, by its steps.
use Rattle.std.proofs.Common.{◌≡◌, ℕ, ◌+◌, Bool, true, false, [], ◌∷◌, ◌++◌, length, Option}
use Rattle.std.proofs.Common.{Some, None, refl, sym, ap, ◌∙◌, arith}
use Rattle.std.specs.Prelude.{Ok, Err, not, nat_lt, ℤ}
use Rattle.sv_num.specs.Vectors.{as_number}
use Rattle.sv_ast.specs.Scopes.{Number, parameter, signal}
use Rattle.sv_ast.specs.Tree.{ExpressionTree, SpanTree, DeclarationTree, ParameterTree}
use Rattle.sv_ast.specs.Values.{constant_of, whole_number}
use Rattle.sv_ast.specs.Instances.{entry, span_width, in_range}
use Rattle.sv_ast.specs.GrammarModules.{place_of}
use Rattle.sv_elab_rules.specs.Walks.{WalkStep, Walk, Steps, ask, done, ◌>>=◌}
use Rattle.sv_elab_rules.specs.Rules.{twice, too_many, bad_range}
use Rattle.sv_elab_rules.specs.Names.{Names, is_bound, names_at}
use Rattle.sv_elab_rules.specs.ExpressionSteps.{asked, own_divisors, constant_walk}
use Rattle.sv_elab_rules.specs.Declarations.{Site, Declared, is_range, range_steps, override_of}
use Rattle.sv_elab_rules.specs.Declarations.{final_walk, parameter_walk, declared_signal, signal_ahead}
use Rattle.sv_elab_rules.specs.Declarations.{signal_walk}
use Rattle.sv_elab_rules.proofs.WalkLemmas.{end_after, end_broken, parts_done}
use Rattle.sv_elab_decl.specs.Ranges.{IsRange}

-- a constant that breaks no rule is found as its value
pub constant_is : (names : Names) (e : ExpressionTree) (n : Number)
    → (constant_walk names e).end ≡ Ok n
    → n ≡ constant_of names.scope e
unfolding constant_walk
constant_is names e n h =
    let first = parts_done (asked names true e)
    (λ _. own_divisors names.scope e >>= λ _. done (constant_of names.scope e)) n h in
    let second = parts_done (own_divisors names.scope e)
    (λ _. done (constant_of names.scope e)) n first.2 in
    let same : constant_of names.scope e ≡ n = cc second.2 in
    sym same

pub whole_is : (names : Names) (e : ExpressionTree) (n : Number) → n ≡ constant_of names.scope e
    → as_number n.width n.signed n.value ≡ whole_number names.scope e
whole_is names e n h = ap (λ (m : Number). as_number m.width m.signed m.value) h

-- ---- a range

module _ (names : Names) (span : SpanTree) where
  last : Steps
  last = ask (is_range 64 (whole_number names.scope span.high) (whole_number names.scope span.low))
      (bad_range (place_of span.high))

  low_then : Steps
  low_then = constant_walk names span.low >>= λ _. last

  pub high_stops : (s : WalkStep) → (constant_walk names span.high).end ≡ Err s
      → (range_steps names (Some span)).end ≡ Err s
  unfolding range_steps
  high_stops s h =
      end_broken (constant_walk names span.high) (λ _. constant_walk names span.low >>= λ _.
      ask (is_range 64 (whole_number names.scope span.high) (whole_number names.scope span.low))
      (bad_range (place_of span.high))) s h

  module _ (high : Number) (high_ok : (constant_walk names span.high).end ≡ Ok high) where
    after_high : (range_steps names (Some span)).end ≡ low_then.end
    unfolding range_steps low_then last
    after_high = end_after (constant_walk names span.high) (λ _. low_then) high high_ok

    pub low_stops : (s : WalkStep) → (constant_walk names span.low).end ≡ Err s
        → (range_steps names (Some span)).end ≡ Err s
    unfolding low_then
    low_stops s h = after_high ∙ end_broken (constant_walk names span.low) (λ _. last) s h

    module _ (low : Number) (low_ok : (constant_walk names span.low).end ≡ Ok low) where
      to_last : (range_steps names (Some span)).end ≡ last.end
      unfolding low_then
      to_last = after_high ∙ end_after (constant_walk names span.low) (λ _. last) low low_ok

      bounds : is_range 64 (as_number high.width high.signed high.value)
          (as_number low.width low.signed low.value)
          ≡ is_range 64 (whole_number names.scope span.high) (whole_number names.scope span.low)
      bounds =
          ap (λ (z : ℤ). is_range 64 z (as_number low.width low.signed low.value))
          (whole_is names span.high high (constant_is names span.high high high_ok))
          ∙ ap (λ (z : ℤ). is_range 64 (whole_number names.scope span.high) z)
          (whole_is names span.low low (constant_is names span.low low low_ok))

      pub range_refused
          : is_range 64 (as_number high.width high.signed high.value)
          (as_number low.width low.signed low.value) ≡ false
          → (range_steps names (Some span)).end ≡ Err (bad_range (place_of span.high))
      unfolding last
      range_refused h =
          to_last ∙ ap (λ (b : Bool). (ask b (bad_range (place_of span.high))).end) (sym bounds ∙ h)

      pub range_passed
          : is_range 64 (as_number high.width high.signed high.value)
          (as_number low.width low.signed low.value) ≡ true
          → (range_steps names (Some span)).end ≡ Ok tt
      unfolding last
      range_passed h =
          to_last ∙ ap (λ (b : Bool). (ask b (bad_range (place_of span.high))).end) (sym bounds ∙ h)

pub no_range : (names : Names) → (range_steps names None).end ≡ Ok tt
unfolding range_steps
no_range names = refl

-- where there is no range
pub no_width : (names : Names) (span : Option SpanTree) → span ≡ None → IsRange names span None
no_width names None h = (no_range names, refl, omega arith, omega arith)
no_width names (Some span) h = absurd (cc h)

-- ---- a final value

pub set_value : (names : Names) (n : Number) (e : ExpressionTree) →
    (final_walk names (Some n) e).end ≡ Ok n
unfolding final_walk
set_value names n e = refl

pub default_value : (names : Names) (e : ExpressionTree)
    → (final_walk names None e).end ≡ (constant_walk names e).end
unfolding final_walk
default_value names e = refl

-- ---- a parameter

module _ (base : ℕ) (site : Site) (d : Declared) (p : ParameterTree) (names : Names)
    (are : names ≡ names_at base site.master d.bindings) where
  made : Number → Declared
  made final = record {
    bindings = d.bindings ++ (p.name, parameter (in_range names.scope p.signed p.span final)) ∷ [];
    signals = d.signals;
  }

  rest : Number → Walk Declared
  rest final =
      ask (not (is_bound (entry d.bindings p.name))) (twice p.place p.name) >>= λ _.
      done (made final)

  value : Walk Number
  value = final_walk names (override_of site d.bindings p) p.value

  whole : (parameter_walk base site d p).end ≡ (range_steps names p.span >>= λ _.
      value >>= rest).end
  unfolding parameter_walk rest made value
  whole = ap (λ (names : Names). (range_steps names p.span
      >>= λ _. final_walk names (override_of site d.bindings p) p.value
      >>= λ final. ask (not (is_bound (entry d.bindings p.name))) (twice p.place p.name)
      >>= λ _. done (record {
        bindings =
            d.bindings ++ (p.name, parameter (in_range names.scope p.signed p.span final)) ∷ [];
        signals = d.signals;
      })).end) (sym are)

  pub parameter_range_stops : (s : WalkStep) → (range_steps names p.span).end ≡ Err s
      → (parameter_walk base site d p).end ≡ Err s
  parameter_range_stops s h =
      whole ∙ end_broken (range_steps names p.span) (λ _. value >>= rest) s h

  module _ (ranged : (range_steps names p.span).end ≡ Ok tt) where
    after_range : (parameter_walk base site d p).end ≡ (value >>= rest).end
    after_range = whole ∙ end_after (range_steps names p.span) (λ _. value >>= rest) tt ranged

    pub value_stops : (s : WalkStep)
        → (final_walk names (override_of site d.bindings p) p.value).end ≡ Err s
        → (parameter_walk base site d p).end ≡ Err s
    unfolding value
    value_stops s h = after_range ∙ end_broken value rest s h

    module _ (final : Number)
        (found : (final_walk names (override_of site d.bindings p) p.value).end ≡ Ok final) where
      to_rest : (parameter_walk base site d p).end ≡ (rest final).end
      unfolding value
      to_rest = after_range ∙ end_after value rest final found

      pub parameter_twice : is_bound (entry d.bindings p.name) ≡ true
          → (parameter_walk base site d p).end ≡ Err (twice p.place p.name)
      unfolding rest
      parameter_twice h =
          to_rest ∙ ap (λ (b : Bool).
          (ask (not b) (twice p.place p.name) >>= λ _. done (made final)).end) h

      pub parameter_made : is_bound (entry d.bindings p.name) ≡ false
          → (parameter_walk base site d p).end ≡ Ok (record {
            bindings =
                d.bindings ++ (p.name, parameter (in_range names.scope p.signed p.span final)) ∷ [];
            signals = d.signals;
          })
      unfolding rest made
      parameter_made h =
          to_rest ∙ ap (λ (b : Bool).
          (ask (not b) (twice p.place p.name) >>= λ _. done (made final)).end) h

-- ---- a signal

module _ (base least : ℕ) (site : Site) (d : Declared) (t : DeclarationTree) where
  abbrev names_there : Names
  names_there = names_at base site.master d.bindings

  abbrev pub signal_made : Declared
  signal_made = record {
    bindings = d.bindings ++ (t.name, signal (span_width (entry d.bindings) t.span) t.signed) ∷ [];
    signals = d.signals ++ declared_signal site (span_width (entry d.bindings) t.span) least t ∷ [];
  }

  new : Walk Declared
  new = ask (not (is_bound (entry d.bindings t.name))) (twice t.place t.name) >>= λ _.
      done signal_made

  all : (signal_ahead base least site d t).end ≡ (range_steps names_there t.span >>= λ _. new).end
  unfolding signal_ahead new
  all = refl

  pub signal_range_stops : (s : WalkStep) → (range_steps names_there t.span).end ≡ Err s
      → (signal_ahead base least site d t).end ≡ Err s
  signal_range_stops s h = all ∙ end_broken (range_steps names_there t.span) (λ _. new) s h

  module _ (ranged : (range_steps names_there t.span).end ≡ Ok tt) where
    to_new : (signal_ahead base least site d t).end ≡ new.end
    to_new = all ∙ end_after (range_steps names_there t.span) (λ _. new) tt ranged

    pub signal_twice : is_bound (entry d.bindings t.name) ≡ true
        → (signal_ahead base least site d t).end ≡ Err (twice t.place t.name)
    unfolding new
    signal_twice h =
        to_new
        ∙ ap (λ (b : Bool). (ask (not b) (twice t.place t.name) >>= λ _. done signal_made).end) h

    pub signal_found : is_bound (entry d.bindings t.name) ≡ false
        → (signal_ahead base least site d t).end ≡ Ok signal_made
    unfolding new
    signal_found h =
        to_new
        ∙ ap (λ (b : Bool). (ask (not b) (twice t.place t.name) >>= λ _. done signal_made).end) h

  -- and then the limit
  limited : Declared → Walk Declared
  limited next = ask (nat_lt (base + length d.signals) 4096) (too_many t.place) >>= λ _. done next

  to_limit : (signal_walk base least site d t).end ≡
      (signal_ahead base least site d t >>= limited).end
  unfolding signal_walk limited
  to_limit = refl

  pub signal_broken : (s : WalkStep) → (signal_ahead base least site d t).end ≡ Err s
      → (signal_walk base least site d t).end ≡ Err s
  signal_broken s h = to_limit ∙ end_broken (signal_ahead base least site d t) limited s h

  pub signal_over : (next : Declared) → (signal_ahead base least site d t).end ≡ Ok next
      → nat_lt (base + length d.signals) 4096 ≡ false
      → (signal_walk base least site d t).end ≡ Err (too_many t.place)
  unfolding limited
  signal_over next h k =
      to_limit ∙ end_after (signal_ahead base least site d t) limited next h
      ∙ ap (λ (b : Bool). (ask b (too_many t.place) >>= λ _. done next).end) k

  pub signal_within : (next : Declared) → (signal_ahead base least site d t).end ≡ Ok next
      → nat_lt (base + length d.signals) 4096 ≡ true
      → (signal_walk base least site d t).end ≡ Ok next
  unfolding limited
  signal_within next h k =
      to_limit ∙ end_after (signal_ahead base least site d t) limited next h
      ∙ ap (λ (b : Bool). (ask b (too_many t.place) >>= λ _. done next).end) k
