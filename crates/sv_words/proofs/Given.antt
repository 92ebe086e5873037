-- What a parse gives of an argument, from what `clap` reads of the command.
use Rattle.std.proofs.Common.{◌≡◌, ◌∙◌, ◌<◌, ◌≤◌, ◌⊎◌, ◌&&◌, ℕ, Bool, true, false, not, zero, suc}
use Rattle.std.proofs.Common.{List, [], ◌∷◌, map, length, Option, Some, None, is_some, refl, sym}
use Rattle.std.proofs.Common.{ap, subst, inl, inr, arith, true≢false, codes}
use Rattle.std.specs.Prelude.{option_map, slice_get, unwrap_or}
use Rattle.std.specs.List.{All, list_all, slice_index_or}
use Rattle.std.specs.Str.{bytes_eq}
use Rattle.std.specs.Borrow.{Bor}
use Rattle.std.proofs.lemmas.List.Elements.{All-get_or}
use Rattle.std.proofs.lemmas.Slice.Eq.{bytes_eq-Decides}
use Rattle.clap.specs.Facts.{Entry, EntryPasses, HasReading, PassesArg, ValuesPass, args_of}
use Rattle.clap.specs.Facts.{groups_of, least_values, parser_of, parser_of_value}
use Rattle.clap.specs.Built.{IsAuto, IsParsedFrom, IsPlain, SameRules}
use Rattle.clap.specs.Matches.{first_value, found_of, matched_of, one_text}
use Rattle.clap.specs.Values.{Accepts, read_as, reading_of}
use Rattle.clap.specs.Walk.{Rule, Text, is_empty, rule_of}
use Rattle.clap.specs.Simple.{App, IsSimple, app_of, has_simple_rules, is_ready, is_ready_leaf}
use Rattle.clap.specs.Simple.{shape_of}
use Rattle.clap.proofs.WalkLemmas.{both}
use Rattle.clap.proofs.SimpleLemmas.{is_false, ready_simple, simple_groups}
use Rattle.clap.proofs.TakesLemmas.{each_rule, free_arg}
use Rattle.clap.proofs.CallerLemmas.{entry_by_id, required_has_value, same_rules_by_id}
use Rattle.clap.specs.declared.builder.action.ArgAction.TheVariants.{Set}
use Rattle.clap.specs.declared.builder.arg.Arg.{Arg}
use Rattle.clap.specs.declared.builder.command.Command.{Command}
use Rattle.clap.specs.declared.builder.command.Command.TheViews.{out-Command}
use Rattle.clap.specs.declared.builder.value_parser.Reading.{Reading}
use Rattle.clap.specs.declared.builder.value_parser.ValueParser.{ValueParser}
use Rattle.clap.specs.declared.parser.matches.ArgMatches.{ArgMatches}
use Rattle.clap.specs.declared.parser.matches.Found.{Found}
use Rattle.clap.specs.declared.parser.matches.MatchedArg.{MatchedArg}

-- ---- tests of a command, which compute where it is written out

-- the command has no subcommand that matters, and nothing in it excludes anything
abbrev pub is_plain_line : App → Bool
is_plain_line a = is_ready a.top && (list_all is_ready_leaf a.subs
    && (list_all (λ (r : Rule). r.is_free) a.top.rules && not a.top.subcommand_negates_reqs))

-- the id stands at this place alone
abbrev pub stands_once : Text → List Rule → ℕ → Bool
stands_once id [] k = true
stands_once id (r ∷ rs) zero = list_all (λ (s : Rule). not (bytes_eq s.id id)) rs
stands_once id (r ∷ rs) (suc k) = not (bytes_eq r.id id) && stands_once id rs k

-- the id is none of those that building adds
abbrev pub is_own : Text → Bool
is_own id = not (is_empty id)
    && (not (bytes_eq id (codes "help")) && not (bytes_eq id (codes "version")))

-- the rule at a place of the command
pub record StandsAt (a : App) (k : ℕ) (r : Rule) : Type 0 where
  pub line : is_plain_line a ≡ true
  pub at : slice_get a.top.rules k ≡ Some r
  pub once : stands_once r.id a.top.rules k ≡ true
  pub own : is_own r.id ≡ true

-- ---- from the tests to facts of the command

record IsPlainLine (c : Command) : Type 0 where
  plain : IsPlain c
  globals : (out-Command c).has_globals ≡ false
  negates : (out-Command c).subcommand_negates_reqs ≡ false
  simple : IsSimple c

line_facts : (c : Command) → is_plain_line (app_of c) ≡ true → IsPlainLine c
line_facts c h =
    let p = both (is_ready (shape_of c)) _ h in
    let q = both (list_all is_ready_leaf (app_of c).subs) _ p.1 in
    let r = both (list_all (λ (r : Rule). r.is_free) (shape_of c).rules) _ q.1 in
    let s : IsSimple c = ready_simple c p.0 q.0 in
    let rules = both (shape_of c).is_plain _ (both (has_simple_rules (shape_of c)) _ p.0).0 in
    record {
      plain = (
        λ k d lt.
            let f = free_arg (slice_index_or (args_of c) k d) (s.args k d lt)
            (each_rule (λ (r : Rule). r.is_free) (args_of c) r.0 k d lt) in
            (f.exclusive, f.conflicts, f.overrides, simple_groups c rules.1 k d lt),
        s.groups,
      );
      globals = s.globals;
      negates = is_false _ r.1;
      simple = s;
    }

-- the argument of a rule
arg_at : (xs : List Arg) (k : ℕ) (r : Rule) → slice_get (map rule_of xs) k ≡ Some r
    → (d : Arg) × (k < length xs) × (rule_of (slice_index_or xs k d) ≡ r)
arg_at [] k r e = absurd (true≢false (sym (ap (λ (o : Option Rule). is_some o) e)))
arg_at (x ∷ xs) zero r e = (x, omega arith, ap (λ (o : Option Rule). unwrap_or o (rule_of x)) e)
arg_at (x ∷ xs) (suc k) r e =
    let h = arg_at xs k r e in
    (h.0, omega (arith, h.1), h.2)

not_here : (id : Text) (xs : List Arg) (j : ℕ) (e : Arg)
    → list_all (λ (s : Rule). not (bytes_eq s.id id)) (map rule_of xs) ≡ true
    → j < length xs → bytes_eq (slice_index_or xs j e).id.now id ≡ true → ⊥
not_here id xs j e none lt hit =
    true≢false (sym hit ∙ is_false _
    (each_rule (λ (s : Rule). not (bytes_eq s.id id)) xs none j e lt))

one_place : (id : Text) (xs : List Arg) (k j : ℕ) (e : Arg)
    → stands_once id (map rule_of xs) k ≡ true
    → j < length xs → bytes_eq (slice_index_or xs j e).id.now id ≡ true → j ≡ k
one_place id [] k j e once lt hit = absurd (omega arith)
one_place id (x ∷ xs) zero zero e once lt hit = refl
one_place id (x ∷ xs) zero (suc j) e once lt hit = absurd
    (not_here id xs j e once (omega arith) hit)
one_place id (x ∷ xs) (suc k) zero e once lt hit = absurd
    (true≢false (sym hit ∙ is_false _ (both _ _ once).0))
one_place id (x ∷ xs) (suc k) (suc j) e once lt hit = ap suc
    (one_place id xs k j e (both _ _ once).1 (omega arith) hit)

not_empty : (id : Text) → is_own id ≡ true → id ≡ [] → ⊥
not_empty id own e =
    let h : not (is_empty id) ≡ true = (both (not (is_empty id)) _ own).0 in
    true≢false (sym h ∙ ap (λ (t : Text). not (is_empty t)) e)

not_auto : (id : Text) → is_own id ≡ true → (id ≡ codes "help") ⊎ (id ≡ codes "version") → ⊥
not_auto id own (inl e) =
    let h = (both (not (bytes_eq id (codes "help"))) _ (both (not (is_empty id)) _ own).1).0 in
    true≢false (sym h ∙ ap (λ (t : Text). not (bytes_eq t (codes "help"))) e)
not_auto id own (inr e) =
    let h = (both (not (bytes_eq id (codes "help"))) _ (both (not (is_empty id)) _ own).1).1 in
    true≢false (sym h ∙ ap (λ (t : Text). not (bytes_eq t (codes "version"))) e)

-- ---- the argument at a place of a command

record ArgAt (c : Command) (k : ℕ) (r : Rule) : Type 0 where
  facts : IsPlainLine c
  d : Arg
  lt : k < length (args_of c)
  is : rule_of (slice_index_or (args_of c) k d) ≡ r
  unique : (j : ℕ) (e : Arg) → j < length (args_of c)
      → bytes_eq (slice_index_or (args_of c) j e).id.now
      (slice_index_or (args_of c) k d).id.now ≡ true → j ≡ k
  named : (slice_index_or (args_of c) k d).id.now ≡ [] → ⊥
  own : IsAuto (slice_index_or (args_of c) k d) → ⊥

arg_of : (c : Command) (a : App) (k : ℕ) (r : Rule) → app_of c ≡ a → StandsAt a k r → ArgAt c k r
arg_of c a k r same s =
    let line : is_plain_line (app_of c) ≡ true = ap is_plain_line same ∙ s.line in
    let at : slice_get (map rule_of (args_of c)) k ≡ Some r = ap
    (λ (x : App). slice_get x.top.rules k) same ∙ s.at in
    let once : stands_once r.id (map rule_of (args_of c)) k ≡ true = ap
    (λ (x : App). stands_once r.id x.top.rules k) same ∙ s.once in
    let h = arg_at (args_of c) k r at in
    let id : (slice_index_or (args_of c) k h.0).id.now ≡ r.id = ap (λ (x : Rule). x.id) h.2 in
    record {
      facts = line_facts c line;
      d = h.0;
      lt = h.1;
      is = h.2;
      unique = λ j e low hit. one_place r.id (args_of c) k j e once low
          (subst (λ (t : Text). bytes_eq (slice_index_or (args_of c) j e).id.now t ≡ true) id hit);
      named = λ e. not_empty r.id s.own (sym id ∙ e);
      own = λ auto. not_auto r.id s.own
          (elim auto [ inl e ↦ inl (sym id ∙ e) | inr e ↦ inr (sym id ∙ e) ]);
    }

-- a required argument with one value has it
pub required_is_given : (c : Command) (m : ArgMatches) (a : App) (k : ℕ) (r : Rule)
    → IsParsedFrom c m → app_of c ≡ a → StandsAt a k r
    → r.required ≡ true → r.action ≡ Some Set → r.range ≡ None
    → is_some (first_value (found_of m) r.id) ≡ true
required_is_given c m a k r p same s required action range =
    let x = arg_of c a k r same s in
    let b : Arg = slice_index_or (args_of c) k x.d in
    let least : 1 ≤ least_values b =
    subst (λ (n : _). 1 ≤ (Rattle.clap.specs.Facts.unwrap_or_range n).start_inclusive)
    (sym (ap (λ (y : Rule). y.range) x.is ∙ range)) (omega arith) in
    let value = required_has_value c m p x.facts.plain x.facts.globals x.facts.negates k x.d x.lt
    (ap (λ (y : Rule). y.required) x.is ∙ required) (ap (λ (y : Rule). y.action) x.is ∙ action)
    (x.facts.simple.args k x.d x.lt).delimiter least x.unique x.named x.own in
    subst (λ (t : Text). is_some (first_value (found_of m) t) ≡ true)
    (ap (λ (y : Rule). y.id) x.is) value

-- ---- the value of an option, and how it is read

head_passes : (P : List ℕ → Type 0) (how : Reading) (vs : List (Bor (List ℕ))) (t : List ℕ)
    → All (λ (v : Bor (List ℕ)). P v.now) vs
    → option_map (λ (s : Bor (List ℕ)). s.now) (slice_get vs 0) ≡ Some t
    → (option_map (λ (s : Bor (List ℕ)). read_as how s.now) (slice_get vs 0) ≡ Some (read_as how t))
    × P t
head_passes P how [] t h e = absurd (true≢false (sym (ap (λ (o : Option (List ℕ)). is_some o) e)))
head_passes P how (v ∷ vs) t h e =
    let same : v.now ≡ t = ap (λ (o : Option (List ℕ)). unwrap_or o t) e in (
      ap (λ (u : List ℕ). Some (read_as how u)) same,
      subst P same
          (All-get_or (λ (v : Bor (List ℕ)). P v.now) (v ∷ vs) 0 v (omega arith) h),
    )

-- what one entry gives
read_of : (c : Command) (f : Found) (id t : List ℕ) (Q : List ℕ → Type 0) (how : Reading)
    (x : MatchedArg) (e : Entry)
    → groups_of c ≡ [] → (id ≡ [] → ⊥) → ((r : Reading) → HasReading c id r → r ≡ how)
    → ((v : List ℕ) → PassesArg c id v → Q v)
    → matched_of f id ≡ Some x → option_map (λ (s : Bor (List ℕ)). s.now)
    (slice_get x.vals.items 0) ≡ Some t
    → e.1 ≡ x → e.0.now ≡ id → EntryPasses c e
    → (one_text f id ≡ Some (read_as how t)) × Q t
read_of c f id t Q how x e no_groups named reads read found first same_x key_id pass =
    let no_group : e.1.is_group ≡ true → ⊥ = λ g. elim (pass.3 g) [
      | inl empty ↦ named (sym key_id ∙ empty)
      | inr lots ↦
          let bad : 0 < 0 = rw no_groups at lots in
          absurd (omega arith)
    ] in
    let all : All (λ (v : Bor (List ℕ)). Q v.now) x.vals.items = elim pass.0 [
      | inl g ↦ absurd (no_group g)
      | inr vals ↦
          let these : All (λ (v : Bor (List ℕ)). PassesArg c id v.now) x.vals.items =
          subst (λ (w : List ℕ). All (λ (v : Bor (List ℕ)). PassesArg c w v.now) x.vals.items)
          key_id (rw same_x at vals) in
          λ k d lt. read (slice_index_or x.vals.items k d).now (these k d lt)
    ] in
    let is : x.reading ≡ how = ap (λ (y : MatchedArg). y.reading) (sym same_x) ∙ elim pass.4 [
      | inl g ↦ absurd (no_group g)
      | inr h ↦ reads e.1.reading (subst (λ (w : List ℕ). HasReading c w e.1.reading) key_id h)
    ] in
    let got = head_passes Q how x.vals.items t all first in
    (rw (found, is) got.0, got.1)

entry_read : (c : Command) (f : Found) (id t : List ℕ) (Q : List ℕ → Type 0) (how : Reading)
    → ValuesPass c f → groups_of c ≡ [] → (id ≡ [] → ⊥)
    → ((r : Reading) → HasReading c id r → r ≡ how) → ((v : List ℕ) → PassesArg c id v → Q v)
    → first_value f id ≡ Some t → (one_text f id ≡ Some (read_as how t)) × Q t
entry_read c f id t Q how values no_groups named reads read has = go (matched_of f id) refl has
  where
    step : (x : MatchedArg) → matched_of f id ≡ Some x
        → option_map (λ (s : Bor (List ℕ)). s.now) (slice_get x.vals.items 0) ≡ Some t
        → ((e : Entry) × (e.1 ≡ x) × (bytes_eq e.0.now id ≡ true) × EntryPasses c e)
        → (one_text f id ≡ Some (read_as how t)) × Q t
    step x found first got =
        read_of c f id t Q how x got.0 no_groups named reads read found first got.1
        ((bytes_eq-Decides got.0.0.now id).0 got.2) got.3

    go : (o : Option MatchedArg) → matched_of f id ≡ o → first_value f id ≡ Some t
        → (one_text f id ≡ Some (read_as how t)) × Q t
    go None e h =
        let bad : None ≡ Some t = rw e at h in
        absurd (true≢false (sym (ap (λ (o : Option (List ℕ)). is_some o) bad)))
    go (Some x) e h = step x e (rw e at h)
        (entry_by_id (EntryPasses c) f.entries.items id x values e)

accepts_of : (a y : Arg) (q : ValueParser) (t : List ℕ) → SameRules a y → a.value_parser ≡ Some q
    → Accepts y.ignore_case (parser_of y) t → Accepts a.ignore_case q t
accepts_of a y q t s parser read =
    let is_q : parser_of y ≡ q = ap parser_of_value (s.parser q parser) in
    let as_q : Accepts y.ignore_case q t = subst
    (λ (w : ValueParser). Accepts y.ignore_case w t) is_q read in
    subst (λ (b : Bool). Accepts b q t) s.ignore_case as_q

-- a value that is there passed the parser of its argument, and is read as that says
pub value_is_read : (c : Command) (m : ArgMatches) (a : App) (k : ℕ) (r : Rule) (q : ValueParser)
    (t : List ℕ) → IsParsedFrom c m → app_of c ≡ a → StandsAt a k r
    → r.parser ≡ Some q → first_value (found_of m) r.id ≡ Some t
    → (one_text (found_of m) r.id ≡ Some (read_as (reading_of q) t)) × Accepts r.ignore_case q t
value_is_read c m a k r q t p same s parser has =
    let x = arg_of c a k r same s in
    let b : Arg = slice_index_or (args_of c) k x.d in
    let id : b.id.now ≡ r.id = ap (λ (y : Rule). y.id) x.is in
    let mine : b.value_parser ≡ Some q = ap (λ (y : Rule). y.parser) x.is ∙ parser in
    let parsed = p.parsed (p.from.globals ∙ x.facts.globals) in
    let reads = λ (how : Reading) (any : HasReading p.built b.id.now how).
    let rules = same_rules_by_id c m p k x.d x.lt x.unique x.own any.0 any.1 any.2 any.3 any.4.0 in
    sym any.4.1 ∙ ap (λ (o : Option ValueParser). reading_of (parser_of_value o))
    (rules.parser q mine) in
    let passes = λ (v : List ℕ) (any : PassesArg p.built b.id.now v).
    accepts_of b any.1 q v (same_rules_by_id c m p k x.d x.lt x.unique x.own any.0 any.1 any.2 any.3
    any.4.0) mine any.4.1 in
    let got = entry_read p.built (found_of m) b.id.now t (λ (v : List ℕ). Accepts b.ignore_case q v)
    (reading_of q) parsed.values
    (p.from.plain x.facts.plain).1 x.named reads passes
    (subst (λ (w : List ℕ). first_value (found_of m) w ≡ Some t) (sym id) has) in (
      subst (λ (w : List ℕ). one_text (found_of m) w ≡ Some (read_as (reading_of q) t)) id got.0,
      subst (λ (y : Bool). Accepts y q t) (ap (λ (y : Rule). y.ignore_case) x.is) got.1,
    )
