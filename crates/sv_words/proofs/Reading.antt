-- From a parse by `clap` to the words of `specs/Words.antt`.
use Rattle.std.proofs.Common.{◌≡◌, ◌∙◌, ◌⊎◌, ℕ, Bool, true, false, List, [], ◌∷◌, Option, Some}
use Rattle.std.proofs.Common.{None, is_some, refl, sym}
use Rattle.std.proofs.Common.{ap, subst, inl, inr, arith, ne_eqb, codes}
use Rattle.std.specs.Prelude.{option_map, option_and_then, string_bytes, String}
use Rattle.std.specs.declared.alloc.Global.{Global}
use Rattle.clap.specs.Words.{App, HasKind, HasMatchesOf, IsParsedFrom, Kinds, Text, app_of}
use Rattle.clap.specs.Words.{fault_of, first_of, first_value, found_of, is_simple}
use Rattle.clap.specs.Words.{is_simple_and_free}
use Rattle.clap.specs.Words.{kind_of, matches_of, rows_of}
use Rattle.clap.specs.Walk.{is_empty}
use Rattle.clap.proofs.OnLiterals.{clap_on_literals}
use Rattle.clap.proofs.WalkLemmas.{first_value-rows}
use Rattle.clap.specs.declared.builder.command.Command.{Command as Line}
use Rattle.clap.specs.declared.error.Error.{Error}
use Rattle.clap.specs.declared.error.kind.ErrorKind.{ErrorKind}
use Rattle.clap.specs.declared.error.kind.ErrorKind.TheVariants as kind
use Rattle.clap.specs.declared.parser.matches.ArgMatches.{ArgMatches}
use Rattle.clap.specs.declared.parser.matches.Found.{Found}
use Rattle.sv_words.specs.Found.{HasFlag, HasNeededNumber, HasWords, IsGiven, IsReadAs, Rejects}
use Rattle.sv_words.specs.Lines.{found_in, greatest, greatest_budget, is_read, line_of}
use Rattle.sv_words.specs.Lines.{flag, needed, needed_number, needed_option, number, small_number}
use Rattle.sv_words.specs.Words.{Request, check, verify, list, cnf, sim, compare, gen, budget_of}
use Rattle.sv_words.specs.Words.{is_set, number_of, of_given, plain, request_in}
use Rattle.sv_words.specs.declared.command.Command.TheVariants as asked
use Rattle.sv_words.specs.declared.command.CommandName.{CommandName}
use Rattle.sv_words.specs.declared.command.CommandName.TheVariants as name
use Rattle.sv_words.specs.declared.command.UsageKind.TheVariants.{Words}
use Rattle.sv_words.specs.declared.command.WordFault.{WordFault}
use Rattle.sv_words.specs.declared.command.WordFault.TheVariants.{OutOfMemory, Usage}
use Rattle.sv_words.proofs.Given.{StandsAt, required_is_given, value_is_read}

-- ---- the lines, computed

line_forms : (n : CommandName) →
    (is_simple_and_free (line_of n) ≡ true) × (is_simple (line_of n) ≡ true)
unfolding line_of clap_on_literals
line_forms name.Check = (refl, refl)
line_forms name.Verify = (refl, refl)
line_forms name.List = (refl, refl)
line_forms name.Cnf = (refl, refl)
line_forms name.Sim = (refl, refl)
line_forms name.Compare = (refl, refl)
line_forms name.Gen = (refl, refl)

file_of_check : StandsAt (line_of name.Check) 0 (needed (codes "FILE"))
unfolding line_of
file_of_check = record { line = refl; at = refl; once = refl; own = refl }

file_of_verify : StandsAt (line_of name.Verify) 0 (needed (codes "FILE"))
unfolding line_of
file_of_verify = record { line = refl; at = refl; once = refl; own = refl }

file_of_list : StandsAt (line_of name.List) 0 (needed (codes "FILE"))
unfolding line_of
file_of_list = record { line = refl; at = refl; once = refl; own = refl }

file_of_cnf : StandsAt (line_of name.Cnf) 0 (needed (codes "FILE"))
unfolding line_of
file_of_cnf = record { line = refl; at = refl; once = refl; own = refl }

file_of_sim : StandsAt (line_of name.Sim) 0 (needed (codes "FILE"))
unfolding line_of
file_of_sim = record { line = refl; at = refl; once = refl; own = refl }

file_of_compare : StandsAt (line_of name.Compare) 0 (needed (codes "FILE"))
unfolding line_of
file_of_compare = record { line = refl; at = refl; once = refl; own = refl }

budget_stands : StandsAt (line_of name.Check) 2 (small_number (codes "budget") 1 greatest_budget)
unfolding line_of
budget_stands = record { line = refl; at = refl; once = refl; own = refl }

json_stands : StandsAt (line_of name.Check) 4 (flag (codes "json"))
unfolding line_of
json_stands = record { line = refl; at = refl; once = refl; own = refl }

proof_stands : StandsAt (line_of name.Verify) 1 (needed (codes "PROOF"))
unfolding line_of
proof_stands = record { line = refl; at = refl; once = refl; own = refl }

number_stands : StandsAt (line_of name.Cnf) 1 (needed_number (codes "NUMBER"))
unfolding line_of
number_stands = record { line = refl; at = refl; once = refl; own = refl }

order_stands : StandsAt (line_of name.Sim) 2 (number (codes "order") 0 greatest)
unfolding line_of
order_stands = record { line = refl; at = refl; once = refl; own = refl }

a_stands : StandsAt (line_of name.Compare) 1 (needed (codes "A"))
unfolding line_of
a_stands = record { line = refl; at = refl; once = refl; own = refl }

b_stands : StandsAt (line_of name.Compare) 2 (needed (codes "B"))
unfolding line_of
b_stands = record { line = refl; at = refl; once = refl; own = refl }

level_stands : StandsAt (line_of name.Compare) 3 (needed_option (codes "level"))
unfolding line_of
level_stands = record { line = refl; at = refl; once = refl; own = refl }

lanes_stand : StandsAt (line_of name.Gen) 0 (needed_number (codes "LANES"))
unfolding line_of
lanes_stand = record { line = refl; at = refl; once = refl; own = refl }

check_stands : StandsAt (line_of name.Gen) 1 (flag (codes "check"))
unfolding line_of
check_stands = record { line = refl; at = refl; once = refl; own = refl }

-- ---- what a parse says

some_text : (o : Option Text) → is_some o ≡ true → (t : Text) × (o ≡ Some t)
some_text None is = absurd cc
some_text (Some t) is = (t, refl)

-- what a parse by the line of a command has
module _ (n : CommandName) (c : Line) (m : ArgMatches) (p : IsParsedFrom c m)
    (same : app_of c ≡ line_of n) where
  given_at : (k : ℕ) (id : Text) → StandsAt (line_of n) k (needed id) → IsGiven id m
  given_at k id stands =
      required_is_given c m (line_of n) k (needed id) p same stands refl refl refl

  number_at : (k : ℕ) (id : Text) → StandsAt (line_of n) k (needed_number id)
      → HasNeededNumber id m
  number_at k id stands =
      let there = some_text (first_value (found_of m) id)
      (required_is_given c m (line_of n) k (needed_number id) p same stands refl refl refl) in
      let got = value_is_read c m (line_of n) k (needed_number id) _ there.0 p same stands refl
      there.1 in
      record { text = there.0; has = there.1; read = got.0; within = got.1 }

  flag_at : (k : ℕ) (id : Text) → StandsAt (line_of n) k (flag id) → HasFlag id m
  flag_at k id stands = λ text has.
      value_is_read c m (line_of n) k (flag id) _ text p same stands refl has

holds_words : (n : CommandName) (c : Line) (m : ArgMatches) → IsParsedFrom c m
    → app_of c ≡ line_of n → HasWords n m
holds_words name.Check c m p same = (
  given_at name.Check c m p same 0 (codes "FILE") file_of_check,
  λ text has. value_is_read c m (line_of name.Check) 2
      (small_number (codes "budget") 1 greatest_budget) _ text p same budget_stands refl has,
  flag_at name.Check c m p same 4 (codes "json") json_stands,
)
holds_words name.Verify c m p same = (
  given_at name.Verify c m p same 0 (codes "FILE") file_of_verify,
  given_at name.Verify c m p same 1 (codes "PROOF") proof_stands,
)
holds_words name.List c m p same = given_at name.List c m p same 0 (codes "FILE") file_of_list
holds_words name.Cnf c m p same = (
  given_at name.Cnf c m p same 0 (codes "FILE") file_of_cnf,
  number_at name.Cnf c m p same 1 (codes "NUMBER") number_stands,
)
holds_words name.Sim c m p same = (
  given_at name.Sim c m p same 0 (codes "FILE") file_of_sim,
  λ text has. value_is_read c m (line_of name.Sim) 2
      (number (codes "order") 0 greatest) _ text p same order_stands refl has,
)
holds_words name.Compare c m p same = (
  given_at name.Compare c m p same 0 (codes "FILE") file_of_compare,
  given_at name.Compare c m p same 1 (codes "A") a_stands,
  given_at name.Compare c m p same 2 (codes "B") b_stands,
  required_is_given c m (line_of name.Compare) 3 (needed_option (codes "level")) p same
      level_stands refl refl refl,
)
holds_words name.Gen c m p same = (
  number_at name.Gen c m p same 0 (codes "LANES") lanes_stand,
  flag_at name.Gen c m p same 1 (codes "check") check_stands,
)

rejected_by : (a : App) (n : CommandName) (words : List Text) → a ≡ line_of n
    → is_empty (fault_of a words) ≡ is_read n words
unfolding is_read
rejected_by a n words same = ap (λ (x : App). is_empty (fault_of x words)) same

found_by : (a : App) (n : CommandName) (words : List Text) → a ≡ line_of n
    → matches_of a words ≡ found_in n words
unfolding found_in
found_by a n words same = ap (λ (x : App). matches_of x words) same

pub line_is_read : (n : CommandName) (c : Line) (m : ArgMatches) (words : List Text)
    → app_of c ≡ line_of n → IsParsedFrom c m
    → HasMatchesOf (app_of c) words m
    → (is_simple_and_free (app_of c) ≡ true → fault_of (app_of c) words ≡ [])
    → IsReadAs n words m
line_is_read n c m words same p matches fails = record {
  read = sym (rejected_by (app_of c) n words same)
      ∙ ap (λ (k : Kinds). is_empty k) (fails (ap is_simple_and_free same ∙ (line_forms n).0));
  rows = (matches (ap is_simple same ∙ (line_forms n).1)).0 ∙ found_by (app_of c) n words same;
  has = holds_words n c m p same;
}

some_kind : (ks : Kinds) (e : Error) → HasKind ks e → (kind_of e ≡ kind.OutOfMemory → ⊥)
    → is_empty ks ≡ false
some_kind [] e (inl h) other = absurd (other h)
some_kind [] e (inr h) other = absurd h
some_kind (k ∷ ks) e h other = ne_eqb _ _ (λ z. omega arith)

pub line_is_refused : (n : CommandName) (c : Line) (e : Error) (words : List Text)
    → app_of c ≡ line_of n
    → (is_simple_and_free (app_of c) ≡ true → HasKind (fault_of (app_of c) words) e)
    → (kind_of e ≡ kind.OutOfMemory → ⊥)
    → is_read n words ≡ false
line_is_refused n c e words same fails other =
    sym (rejected_by (app_of c) n words same)
    ∙ some_kind (fault_of (app_of c) words) e
    (fails (ap is_simple_and_free same ∙ (line_forms n).0)) other

pub rejects : (n : CommandName) (c : Line) (e : Error) (words : List Text) (k : ErrorKind)
    (fault : WordFault) → app_of c ≡ line_of n
    → (is_simple_and_free (app_of c) ≡ true → HasKind (fault_of (app_of c) words) e) → k ≡ kind_of e
    → (fault ≡ OutOfMemory) ⊎ ((fault ≡ Usage Words) × (k ≡ kind.OutOfMemory → ⊥))
    → Rejects n words fault
rejects n c e words k fault same fails is (inl h) = subst (Rejects n words) (sym h) tt
rejects n c e words k fault same fails is (inr h) =
    subst (Rejects n words) (sym h.0)
    (refl, line_is_refused n c e words same fails (λ oom. h.1 (is ∙ oom)))

-- ---- what is found

module _ (f : Found) where
  in_rows : (id : Text) (value : Option (String Global))
      → option_map string_bytes value ≡ first_value f id
      → first_of id (rows_of f) ≡ option_map string_bytes value
  in_rows id value e = sym (first_value-rows f id) ∙ sym e

  flag_in_rows : (id : Text) (flag : Bool) → flag ≡ is_set (first_value f id)
      → is_set (first_of id (rows_of f)) ≡ flag
  flag_in_rows id flag e = ap is_set (sym (first_value-rows f id)) ∙ sym e

  -- what is made of an argument that is given
  made : (id value : Text) (make : Text → Option Request) → first_value f id ≡ Some value
      → of_given id (rows_of f) make ≡ make value
  made id value make e = ap (option_and_then make) (sym (first_value-rows f id) ∙ e)

  -- and of a number that is given
  made_number : (id : Text) (number : ℕ) (make : ℕ → Option Request)
      → option_map number_of (first_value f id) ≡ Some number
      → of_given id (rows_of f) (λ (t : Text). make (number_of t)) ≡ make number
  made_number id number make e =
      go (first_of id (rows_of f)) (ap (option_map number_of) (sym (first_value-rows f id)) ∙ e)
    where
      go : (o : Option Text) → option_map number_of o ≡ Some number
          → option_and_then (λ (t : Text). make (number_of t)) o ≡ make number
      go None e = absurd cc
      go (Some text) e =
          let same : number_of text ≡ number = cc in
          ap make same

  pub asks_check : (file : String Global) (proof : Option (String Global)) (budget : ℕ)
      (top : Option (String Global)) (json : Bool)
      → first_value f (codes "FILE") ≡ Some (string_bytes file)
      → option_map string_bytes proof ≡ first_value f (codes "proof")
      → budget ≡ budget_of (first_value f (codes "budget"))
      → option_map string_bytes top ≡ first_value f (codes "top")
      → json ≡ is_set (first_value f (codes "json"))
      → request_in name.Check (rows_of f) ≡ Some (plain (asked.Check file proof budget top json))
  asks_check file proof budget top json is_file is_proof is_budget is_top is_json =
      let proofs = in_rows (codes "proof") proof is_proof in
      let budgets = ap budget_of (sym (first_value-rows f (codes "budget"))) ∙ sym is_budget in
      let tops = in_rows (codes "top") top is_top in
      let flags = flag_in_rows (codes "json") json is_json in
      made (codes "FILE") (string_bytes file) _ is_file
      ∙ (λ i. Some (check (string_bytes file) (proofs i) (budgets i) (tops i) (flags i)))

  pub asks_verify : (file proof : String Global) (top : Option (String Global))
      → first_value f (codes "FILE") ≡ Some (string_bytes file)
      → first_value f (codes "PROOF") ≡ Some (string_bytes proof)
      → option_map string_bytes top ≡ first_value f (codes "top")
      → request_in name.Verify (rows_of f) ≡ Some (plain (asked.Verify file proof top))
  asks_verify file proof top is_file is_proof is_top =
      let tops = in_rows (codes "top") top is_top in
      made (codes "FILE") (string_bytes file) _ is_file
      ∙ (made (codes "PROOF") (string_bytes proof) _ is_proof
      ∙ (λ i. Some (verify (string_bytes file) (string_bytes proof) (tops i))))

  pub asks_list : (file : String Global) (top : Option (String Global))
      → first_value f (codes "FILE") ≡ Some (string_bytes file)
      → option_map string_bytes top ≡ first_value f (codes "top")
      → request_in name.List (rows_of f) ≡ Some (plain (asked.List file top))
  asks_list file top is_file is_top =
      let tops = in_rows (codes "top") top is_top in
      made (codes "FILE") (string_bytes file) _ is_file
      ∙ (λ i. Some (list (string_bytes file) (tops i)))

  pub asks_cnf : (file : String Global) (number : ℕ) (top : Option (String Global))
      → first_value f (codes "FILE") ≡ Some (string_bytes file)
      → option_map number_of (first_value f (codes "NUMBER")) ≡ Some number
      → option_map string_bytes top ≡ first_value f (codes "top")
      → request_in name.Cnf (rows_of f) ≡ Some (plain (asked.Cnf file number top))
  asks_cnf file number top is_file is_number is_top =
      let tops = in_rows (codes "top") top is_top in
      made (codes "FILE") (string_bytes file) _ is_file
      ∙ (made_number (codes "NUMBER") number
      (λ (n : ℕ). Some (cnf (string_bytes file) n (first_of (codes "top") (rows_of f)))) is_number
      ∙ (λ i. Some (cnf (string_bytes file) number (tops i))))

  pub asks_sim : (file : String Global) (level : Option (String Global)) (order : Option ℕ)
      (top : Option (String Global))
      → first_value f (codes "FILE") ≡ Some (string_bytes file)
      → option_map string_bytes level ≡ first_value f (codes "level")
      → order ≡ option_map number_of (first_value f (codes "order"))
      → option_map string_bytes top ≡ first_value f (codes "top")
      → request_in name.Sim (rows_of f) ≡ Some (plain (asked.Sim file level order top))
  asks_sim file level order top is_file is_level is_order is_top =
      let levels = in_rows (codes "level") level is_level in
      let orders = ap (option_map number_of) (sym (first_value-rows f (codes "order")))
      ∙ sym is_order in
      let tops = in_rows (codes "top") top is_top in
      made (codes "FILE") (string_bytes file) _ is_file
      ∙ (λ i. Some (sim (string_bytes file) (levels i) (orders i) (tops i)))

  pub asks_compare : (file a b level : String Global) (top : Option (String Global))
      → first_value f (codes "FILE") ≡ Some (string_bytes file)
      → first_value f (codes "A") ≡ Some (string_bytes a)
      → first_value f (codes "B") ≡ Some (string_bytes b)
      → first_value f (codes "level") ≡ Some (string_bytes level)
      → option_map string_bytes top ≡ first_value f (codes "top")
      → request_in name.Compare (rows_of f) ≡ Some (plain (asked.Compare file a b level top))
  asks_compare file a b level top is_file is_a is_b is_level is_top =
      let tops = in_rows (codes "top") top is_top in
      made (codes "FILE") (string_bytes file) _ is_file
      ∙ (made (codes "A") (string_bytes a) _ is_a ∙ (made (codes "B") (string_bytes b) _ is_b
      ∙ (made (codes "level") (string_bytes level) _ is_level
      ∙ (λ i. Some (compare (string_bytes file) (string_bytes a) (string_bytes b)
      (string_bytes level) (tops i))))))

  pub asks_gen : (lanes : ℕ) (checks : Bool)
      → option_map number_of (first_value f (codes "LANES")) ≡ Some lanes
      → checks ≡ is_set (first_value f (codes "check"))
      → request_in name.Gen (rows_of f) ≡ Some (plain (asked.Gen lanes checks))
  asks_gen lanes checks is_lanes is_checks =
      let flags = flag_in_rows (codes "check") checks is_checks in
      made_number (codes "LANES") lanes
      (λ (n : ℕ). Some (gen n (is_set (first_of (codes "check") (rows_of f))))) is_lanes
      ∙ (λ i. Some (gen lanes (flags i)))
