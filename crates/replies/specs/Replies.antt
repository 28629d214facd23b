-- The replies of a bench to a command, each a command of its own. Assumes nothing.
use Rattle.std.specs.Prelude.{ℕ, zero, suc, ◌+◌, ◌-◌, ◌*◌, List, [], ◌∷◌, get_or}
use Rattle.kinds.specs.Types.{vmb8ir, name_of}
use Rattle.frame.specs.declared.messages.Glow.TheVariants.{On, Slow, Fast, VeryFast}
use Rattle.frame.specs.declared.messages.Command.{Command}
use Rattle.frame.specs.declared.messages.Command.TheVariants.{TypeLong, TypeShort, Buttons, CellTold, BlockTold, CellAsked, BlockAsked, DumpAsked, CellSet, BlockSet, Errors, ErrorsAsked, NameOne, NameTwo, NameThree, NameAsked, StatusAsked, InputStatus, LedsAll, Leds, BlindStatus, BlindStop, BlindUp, BlindDown}
use Rattle.frame.specs.declared.messages.Message.{Message}
use Rattle.frame.specs.declared.messages.Message.TheVariants.{TypeRequest, Tells}
use Rattle.places.specs.Places.{year_place, week_place, name_length}
use Rattle.replies.specs.Leds.{ones}
use Rattle.replies.specs.Bench.{version_at, own, cell, leds}

abbrev pub block : List ℕ → ℕ → Command
block b l = BlockTold (record { 0 = l }) (cell b l) (cell b (l + 1)) (cell b (l + 2)) (cell b (l + 3))

-- n blocks of four cells, one after the other; CB gives all 64, the lowest first
unfoldable pub dump : List ℕ → ℕ → ℕ → List Command
dump b l zero = []
dump b l (suc n) = block b l ∷ dump b (l + 4) n

abbrev pub blocks : ℕ
blocks = 64

-- the cell of a name's first character, by the channel; and the three parts of the name from that cell on
abbrev pub name_cell : ℕ → ℕ
name_cell channel = name_length * (name_of vmb8ir channel - 1)

abbrev pub name_one : List ℕ → ℕ → ℕ → Command
name_one b n l = NameOne n (cell b l) (cell b (l + 1)) (cell b (l + 2)) (cell b (l + 3)) (cell b (l + 4)) (cell b (l + 5))

abbrev pub name_two : List ℕ → ℕ → ℕ → Command
name_two b n l = NameTwo n (cell b (l + 6)) (cell b (l + 7)) (cell b (l + 8)) (cell b (l + 9)) (cell b (l + 10)) (cell b (l + 11))

abbrev pub name_three : List ℕ → ℕ → ℕ → Command
name_three b n l = NameThree n (cell b (l + 12)) (cell b (l + 13)) (cell b (l + 14)) (cell b (l + 15))

-- no channel is pressed; on is the on bit alone, very fast is both others
abbrev pub status : List ℕ → Command
status b = InputStatus 0 (ones On On (leds b)) (ones Slow VeryFast (leds b)) (ones Fast VeryFast (leds b))

-- the serial number is that of cells H'00FE' and H'00FF'
abbrev pub type_told : List ℕ → Command
type_told b = TypeLong vmb8ir (cell b 0xFE) (cell b 0xFF) (get_or b version_at 0) (own b year_place) (own b week_place)

-- to a command, from the bytes after its deed
abbrev pub answers : List ℕ → Command → List Command
answers b (CellAsked l) = CellTold l (cell b l.0) ∷ []
answers b (BlockAsked l) = block b l.0 ∷ []
answers b (BlockSet l v w x y) = block b l.0 ∷ []
answers b DumpAsked = dump b 0 blocks
answers b (NameAsked n) = name_one b n (name_cell n) ∷ name_two b n (name_cell n) ∷ name_three b n (name_cell n) ∷ []
answers b (StatusAsked x) = status b ∷ []
answers b ErrorsAsked = Errors 0 0 0 ∷ []
answers b (TypeLong k a w c d e) = []
answers b (TypeShort k a w c) = []
answers b (Buttons a w c) = []
answers b (CellTold l v) = []
answers b (BlockTold l a w c d) = []
answers b (CellSet l v) = []
answers b (Errors a w c) = []
answers b (NameOne n a w c d e f) = []
answers b (NameTwo n a w c d e f) = []
answers b (NameThree n a w c d) = []
answers b (InputStatus a w c d) = []
answers b (LedsAll a w c) = []
answers b (Leds g x) = []
answers b (BlindStatus n a w c d e f) = []
answers b (BlindStop n) = []
answers b (BlindUp n t) = []
answers b (BlindDown n t) = []

unfoldable pub replies : List ℕ → Message → List Command
replies b TypeRequest = type_told b ∷ []
replies b (Tells m) = answers b m
