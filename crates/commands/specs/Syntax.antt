-- How a command is spelled, as the words of a line.
-- An unfoldable definition is one word to a proof that does not open it: so a search finds what it is said of.
use Rattle.std.specs.Prelude.{◌≡◌, ℕ, List, [], ◌∷◌, map, Some, None, codes, Option}
use Rattle.std.specs.Borrow.{Bor}
use Rattle.bank.specs.declared.answers.Call.{Call as Calls}
use Rattle.bank.specs.declared.answers.Call.TheVariants.{Ask, Push, Leave}
use Rattle.commands.specs.Numbers.{number, word32, amount, lock_word}
use Rattle.commands.specs.declared.syntax.BinWords.{BinWords}
use Rattle.commands.specs.declared.syntax.Command.{Command}
use Rattle.commands.specs.declared.syntax.Command.TheVariants.{Layout, Bank, Load, Open, Begin, Step, Collect, Ahead, Peek, Close, Read, Call, Word, Node, PokeWord, PokeBin}
use Rattle.commands.specs.declared.syntax.Job.{Job}
use Rattle.commands.specs.declared.syntax.Job.TheVariants.{Lookup, Set, Adjust}
use Rattle.commands.specs.declared.syntax.KindName.{KindName}
use Rattle.commands.specs.declared.syntax.KindName.TheVariants.{Queuing, Ticket, Central}
use Rattle.commands.specs.declared.syntax.Setup.{Setup}

abbrev pub Texts : Type 0
Texts = List (List ℕ)

-- the texts of a line's words
abbrev pub texts : List (Bor (List ℕ)) → Texts
texts = map (λ w. w.now)

-- the first word is the text t, and the words behind it are as P says
abbrev pub Then : List ℕ → (Texts → Type 0) → Texts → Type 0
Then t P [] = ⊥
Then t P (w ∷ ws) = (w ≡ t) × P ws

-- the first word reads as v, and the words behind it are as P says
abbrev pub Arg : {A : Type 0} → (List ℕ → Option A) → A → (Texts → Type 0) → Texts → Type 0
Arg read v P [] = ⊥
Arg read v P (w ∷ ws) = (read w ≡ Some v) × P ws

-- no word is left
abbrev pub End : Texts → Type 0
End [] = Unit
End (w ∷ ws) = ⊥

-- SESSION or BIN
unfoldable pub One : ℕ → Texts → Type 0
One n = Arg number n End

-- SESSION BIN
abbrev pub Two : ℕ × ℕ → Texts → Type 0
Two p = Arg number p.0 (Arg number p.1 End)

abbrev pub kind_text : KindName → List ℕ
kind_text Queuing = codes "queuing"
kind_text Ticket = codes "ticket"
kind_text Central = codes "central"

abbrev pub call_text : Calls → List ℕ
call_text Ask = codes "ask"
call_text Push = codes "push"
call_text Leave = codes "leave"

-- KIND SESSIONS BINS AGE
unfoldable pub Laid : Setup → Texts → Type 0
Laid s = Then (kind_text s.kind) (Arg number s.sizes.sessions (Arg number s.sizes.bins (Arg number s.start End)))

-- ARTICLE QUANTITY RESERVED STAMP
unfoldable pub Four : BinWords → Texts → Type 0
Four w = Arg word32 w.article (Arg word32 w.quantity (Arg word32 w.reserved (Arg word32 w.stamp End)))

-- a job: its name, BIN, and what the job takes
unfoldable pub Works : ℕ × Job → Texts → Type 0
Works (b, Lookup) = Then (codes "lookup") (One b)
Works (b, Set w) = Then (codes "set") (Arg number b (Four w))
Works (b, Adjust a t) = Then (codes "adjust") (Arg number b (Arg amount a (Arg word32 t End)))

-- how each command is spelled
abbrev pub Spells : Command → Texts → Type 0
Spells (Layout s) = Then (codes "layout") (Laid s)
Spells (Bank s) = Then (codes "bank") (Laid s)
Spells (Load b w) = Then (codes "load") (Arg number b (Four w))
Spells Open = Then (codes "open") End
Spells (Begin i b job) = Then (codes "begin") (Arg number i (Works (b, job)))
Spells (Step i) = Then (codes "step") (One i)
Spells (Collect i) = Then (codes "collect") (One i)
Spells (Ahead i) = Then (codes "ahead") (One i)
Spells (Peek b) = Then (codes "peek") (One b)
Spells Close = Then (codes "close") End
Spells (Read b) = Then (codes "read") (One b)
Spells (Call call i b) = Then (call_text call) (Two (i, b))
Spells (Word b) = Then (codes "word") (One b)
Spells (Node i) = Then (codes "node") (One i)
Spells (PokeWord b w) = Then (codes "poke") (Then (codes "word") (Arg number b (Arg lock_word w End)))
Spells (PokeBin b w) = Then (codes "poke") (Then (codes "bin") (Arg number b (Four w)))

-- the words behind the first word t spell the command
abbrev pub Behind : List ℕ → Command → Texts → Type 0
Behind t command ws = Spells command (t ∷ ws)

-- what is read from the text or texts w is spelled so; where nothing is read, nothing is spelled so
abbrev pub Reads : {A W : Type 0} → (A → W → Type 0) → W → Option A → Type 0
Reads P w (Some a) = P a w
Reads {A} P w None = (a : A) → P a w → ⊥

abbrev pub ReadAs : Texts → Option Command → Type 0
ReadAs = Reads Spells
