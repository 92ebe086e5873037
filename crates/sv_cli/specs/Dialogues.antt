-- What the program does for a command: which files it reads and stores, in which order, what it
-- answers, and what it prints. Each file is read only where nothing before it ends the command.
use Rattle.std.specs.Prelude.{◌≡◌, ℕ, ◌+◌, ◌≤◌, ◌⊎◌, List, [], ◌∷◌, Option, Some, None, length}
use Rattle.std.specs.Prelude.{IsTrue, MatchOption}
use Rattle.sv_io.specs.Exchange.{Exchange, Fetched, fetched, whole, too_long}
use Rattle.sv_gen.specs.Sample.{sample_text}
use Rattle.sv_paths.specs.Limits.{excess}
use Rattle.sv_words.specs.Words.{Request, check, verify, list, cnf, sim, compare, gen}
use Rattle.sv_words.specs.Words.{request_of, usage_of}
use Rattle.sv_report.specs.declared.styles.Style.{Style}
use Rattle.sv_cli.specs.Answer.{Answer, misused}
use Rattle.sv_cli.specs.Checks.{Checks, MayStore}
use Rattle.sv_cli.specs.Command.{file_in, top_in, style_in}
use Rattle.sv_cli.specs.Compares.{Compares, is_level, largest_compared}
use Rattle.sv_cli.specs.Generates.{Generates}
use Rattle.sv_cli.specs.Limits.{TellsLimit}
use Rattle.sv_cli.specs.Lists.{Lists, Encodes}
use Rattle.sv_cli.specs.Simulates.{Simulates}
use Rattle.sv_cli.specs.Text.{usage_text}
use Rattle.sv_cli.specs.Texts.{largest_file, RefusesText, Passes}
use Rattle.sv_cli.specs.Verifies.{Verifies}

-- ---- the text of FILE

-- the fetch of FILE handed out more bytes than a text may have
pub record IsOversized (style : Style) (file : List ℕ) (exchanges : List Exchange)
    (answer : Answer) (printed : List ℕ) : Type 0 where
  pub text : List ℕ
  pub long : length text ≡ largest_file + 1
  pub fetches : exchanges ≡ fetched file (too_long text) ∷ []
  pub tells : TellsLimit style 701 [] answer printed

-- it handed out a text within the limit that breaks a rule: the first that it breaks is told
pub record IsRefused (style : Style) (file : List ℕ) (top : Option (List ℕ))
    (exchanges : List Exchange) (answer : Answer) (printed : List ℕ) : Type 0 where
  pub text : List ℕ
  pub within : length text ≤ largest_file
  pub fetches : exchanges ≡ fetched file (whole text) ∷ []
  pub refuses : RefusesText style top text answer printed

-- what a command does with a text that breaks no rule, by what it exchanges further
abbrev pub OwnPart : (top : Option (List ℕ)) → Type 1
OwnPart top =
    (text : List ℕ) → Passes top text → (exchanges : List Exchange) → Answer →
    (printed : List ℕ) → Type 0

-- it handed out a text within the limit that breaks none, and the command goes on
pub record GoesOn (file : List ℕ) (top : Option (List ℕ)) (Own : OwnPart top)
    (exchanges : List Exchange) (answer : Answer) (printed : List ℕ) : Type 0 where
  pub text : List ℕ
  pub within : length text ≤ largest_file
  pub rest : List Exchange
  pub fetches : exchanges ≡ fetched file (whole text) ∷ rest
  pub passes : Passes top text
  pub own : Own text passes rest answer printed

-- what is answered for what the fetch of FILE handed out
pub data AfterText (style : Style) (file : List ℕ) (top : Option (List ℕ)) (Own : OwnPart top)
    (exchanges : List Exchange) (answer : Answer) (printed : List ℕ) : Type 0 where
  oversized : IsOversized style file exchanges answer printed
      → AfterText style file top Own exchanges answer printed
  refused : IsRefused style file top exchanges answer printed
      → AfterText style file top Own exchanges answer printed
  goes_on : GoesOn file top Own exchanges answer printed
      → AfterText style file top Own exchanges answer printed

-- ---- commands

-- what each command does with it; the stimulus is what the input gives to `sim`
abbrev pub own_part : (request : Request) → (stimulus : List ℕ) → OwnPart (top_in request)
own_part (check file proof budget top json) stimulus text passes exchanges answer printed =
    Checks (style_in (check file proof budget top json)) proof budget passes.design exchanges
    answer printed
own_part (verify file proof top) stimulus text passes exchanges answer printed =
    Verifies proof passes.design exchanges answer printed
own_part (list file top) stimulus text passes exchanges answer printed =
    (exchanges ≡ []) × Lists passes.design answer printed
own_part (cnf file number top) stimulus text passes exchanges answer printed =
    (exchanges ≡ []) × Encodes number passes.design answer printed
own_part (sim file level order top) stimulus text passes exchanges answer printed =
    (exchanges ≡ []) × Simulates level order top text passes stimulus answer printed
own_part (compare file a b level top) stimulus text passes exchanges answer printed =
    Compares a b level passes.stands.tree top exchanges answer printed
own_part (gen lanes checks) stimulus text passes exchanges answer printed = ⊥

-- what a command does that reads no file
abbrev pub Alone : Request → Answer → (printed : List ℕ) → Type 0
Alone (gen lanes checks) answer printed = Generates lanes checks answer printed
Alone request answer printed = ⊥

-- what passes between the program and the files for a command, what it answers, and what it prints
abbrev pub IsDialogue : Request → (exchanges : List Exchange) → (stimulus : List ℕ) → Answer →
    (printed : List ℕ) → Type 0
IsDialogue request exchanges stimulus answer printed =
    MatchOption (file_in request)
    ((exchanges ≡ []) × Alone request answer printed)
    (λ file. AfterText (style_in request) file (top_in request) (own_part request stimulus)
    exchanges answer printed)

-- the same for the words of the program; of words that are no command nothing is read
abbrev pub IsAnswer : (words : List (List ℕ)) → (exchanges : List Exchange) →
    (stimulus : List ℕ) → Answer → (printed : List ℕ) → Type 0
IsAnswer words exchanges stimulus answer printed =
    MatchOption (usage_of words)
    ((request : Request) × (request_of words ≡ Some request)
    × IsDialogue request exchanges stimulus answer printed)
    (λ kind. (exchanges ≡ []) × (answer ≡ misused kind) × (printed ≡ usage_text kind))

-- ---- with an answer or without one

-- A is fetched; and where that handed out a stimulus within the limit, B may be
pub data MayFetchBoth (a b : List ℕ) (exchanges : List Exchange) : Type 0 where
  first : (got : Fetched) → exchanges ≡ fetched a got ∷ [] → MayFetchBoth a b exchanges
  both : (first : List ℕ) → length first ≤ largest_compared → (got : Fetched)
      → exchanges ≡ fetched a (whole first) ∷ fetched b got ∷ [] → MayFetchBoth a b exchanges

-- what a command may exchange for a text that passes, behind the fetch of FILE: `verify` fetches
-- PROOF, and `check` stores the certificate, of a design that exceeds no limit on obligations;
-- `compare` fetches A and B where the level is a point of the text
abbrev pub OwnExchange : (request : Request) → (text : List ℕ) → Passes (top_in request) text →
    List Exchange → Type 0
OwnExchange (check file proof budget top json) text passes exchanges =
    (excess passes.design ≡ None) × MayStore proof passes.design budget exchanges
OwnExchange (verify file proof top) text passes exchanges =
    (excess passes.design ≡ None) × (got : Fetched) × (exchanges ≡ fetched proof got ∷ [])
OwnExchange (compare file a b level top) text passes exchanges =
    IsTrue (is_level passes.stands.tree level) × MayFetchBoth a b exchanges
OwnExchange request text passes exchanges = ⊥

-- FILE is fetched, its text breaks no rule, and what the command exchanges of its own follows
pub record GoesFurther (file : List ℕ) (request : Request) (exchanges : List Exchange) : Type 0
  where
    pub text : List ℕ
    pub within : length text ≤ largest_file
    pub rest : List Exchange
    pub fetches : exchanges ≡ fetched file (whole text) ∷ rest
    pub passes : Passes (top_in request) text
    pub own : OwnExchange request text passes rest

-- all that a command with this FILE may have exchanged when it ends: its fetch, or what the command
-- exchanges of its own besides
pub data MayExchangeWith (file : List ℕ) (request : Request) (exchanges : List Exchange) : Type 0
  where
    text : (got : Fetched) → exchanges ≡ fetched file got ∷ []
        → MayExchangeWith file request exchanges
    further : GoesFurther file request exchanges → MayExchangeWith file request exchanges

-- a command without FILE exchanges nothing
abbrev pub MayExchange : Request → List Exchange → Type 0
MayExchange request exchanges =
    MatchOption (file_in request) (exchanges ≡ [])
    (λ file. MayExchangeWith file request exchanges)

-- the same for the words of the program: nothing, as where memory ran out over them, or what the
-- command that they ask for may have exchanged
abbrev pub IsExchanged : (words : List (List ℕ)) → List Exchange → Type 0
IsExchanged words exchanges =
    (exchanges ≡ [])
    ⊎ ((request : Request) × (usage_of words ≡ None) × (request_of words ≡ Some request)
    × MayExchange request exchanges)

-- ---- the text that is judged

-- the text is the one that the command speaks of: what the fetch of FILE handed out, or the sample
abbrev pub IsTextOf : Request → (exchanges : List Exchange) → (text : List ℕ) → Type 0
IsTextOf (gen lanes checks) exchanges bytes = (exchanges ≡ []) × (bytes ≡ sample_text lanes)
IsTextOf request exchanges bytes =
    (file : List ℕ) × (rest : List Exchange) × (file_in request ≡ Some file)
    × (exchanges ≡ fetched file (whole bytes) ∷ rest)
