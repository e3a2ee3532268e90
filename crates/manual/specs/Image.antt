-- Image files and what a run of one prints. An image is version 1, four bytes that say how many follow them, the program
-- counter, A7, the status register, the budget, and the bytes that go to address 0 of 49,152 zeroed ones.
use Rattle.std.specs.Prelude.{ℕ, zero, suc, ◌+◌, ◌-◌, ◌/◌, ◌%◌, Result, Ok, Err}
use mathlib.Core.{Bool.cond, Bool.◌&&◌, List.List, List.[], List.◌∷◌, List.◌++◌}
use lib.{Dec.eqb, Dec.ltb, Dec.leb, ListN.length, ListN.get_or, ListN.drop, ListN.replicate}
use Rattle.manual.specs.declared.{Cpu.Cpu, Loaded.Loaded, Reply.Reply, Reply.TheVariants.Done, Reply.TheVariants.NotAdmitted, Reply.TheVariants.WrongVersion, Reply.TheVariants.WrongLength}
use Rattle.manual.specs.{Registers.with_address, Registers.with_pc, Registers.with_sr, Memory.Storage, Memory.value_at, Admitted.admitted, Reply.number_of, Reply.is_done, Block.fresh, Block.version_at, Block.length_at, Block.head_bytes}

-- ---- the file

abbrev pub image_memory : ℕ
image_memory = 49152

-- where each part lies after the version and the length
abbrev pub start_at : ℕ
start_at = 5

abbrev pub stack_at : ℕ
stack_at = 9

abbrev pub status_at : ℕ
status_at = 13

abbrev pub budget_at : ℕ
budget_at = 15

abbrev pub program_at : ℕ
program_at = 19

-- what the length counts of them
abbrev pub image_head : ℕ
image_head = 14

-- the state that a file says
unfoldable pub image_state : List ℕ → Cpu
image_state f = with_sr (value_at f status_at 2) (with_pc (value_at f start_at 4) (with_address 7 (value_at f stack_at 4) fresh))

-- the reply to a file, and to the storage that it is read into: 9 under five bytes, 8, 9 where the length is none, or does not match
-- the file, or storage has not 49,152 bytes, 2
unfoldable pub image_reply : List ℕ → Storage → Reply
image_reply f b =
    let l : ℕ = value_at f length_at 4 in
    cond (ltb (length f) head_bytes) WrongLength
    (cond (eqb (value_at f version_at 1) 1)
    (cond (leb image_head l && (leb l (image_memory + image_head) && (eqb (length f) (head_bytes + l) && eqb (length b) image_memory)))
    (cond (admitted (image_state f)) Done NotAdmitted)
    WrongLength)
    WrongVersion)

abbrev pub image_budget : List ℕ → ℕ
image_budget f = value_at f budget_at 4

-- the file's bytes at address 0, and zeros up to 49,152
unfoldable pub image_bytes : List ℕ → Storage
image_bytes f = drop program_at f ++ replicate (image_memory - (length f - program_at)) 0

-- what a read of a file gives: the reply, the budget, the state, and storage after it
pub record Image : Type 0 where
  pub reply : Reply
  pub budget : ℕ
  pub cpu : Cpu
  pub storage : Storage

abbrev pub image : Reply → ℕ → Cpu → Storage → Image
image n budget s b = record { reply = n; budget = budget; cpu = s; storage = b }

-- refused: no budget, the fresh state, and storage as given
abbrev pub not_loaded : Reply → Storage → Image
not_loaded n b = image n 0 fresh b

-- a file that is accepted goes into storage, whatever was there
unfoldable pub load_image : List ℕ → Storage → Image
load_image f b =
    let n : Reply = image_reply f b in
    cond (is_done n) (image n (image_budget f) (image_state f) (image_bytes f)) (not_loaded n b)

-- what a read of a file answers: the answer, and storage after it
pub record ImageRead : Type 0 where
  pub answer : Result Loaded Reply
  pub storage : Storage

abbrev pub image_read : Result Loaded Reply → Storage → ImageRead
image_read r b = record { answer = r; storage = b }

-- the budget and the state of what was read, or the reply of what was refused
unfoldable pub loaded : Image → Result Loaded Reply
loaded i = cond (is_done i.reply) (Ok (record { budget = i.budget; cpu = i.cpu })) (Err i.reply)

unfoldable pub read_of : Image → ImageRead
read_of i = image_read (loaded i) i.storage

-- ---- the text, as bytes

-- the character of a digit, 0 to 9 and a to f
unfoldable pub digit : ℕ → ℕ
digit d = cond (ltb d 10) (48 + d) (87 + d)

-- the n low digits of v to the base 16
unfoldable pub hex : ℕ → ℕ → List ℕ
hex zero v = []
hex (suc n) v = hex n (v / 16) ++ (digit (v % 16) ∷ [])

-- v to the base 10, of at most n digits, with no zeros before it
unfoldable pub decimal : ℕ → ℕ → List ℕ
decimal zero v = []
decimal (suc n) v = cond (ltb v 10) (digit v ∷ []) (decimal n (v / 10) ++ (digit (v % 10) ∷ []))

abbrev pub space : ℕ
space = 32

abbrev pub newline : ℕ
newline = 10

-- `left` longs, a space before each
unfoldable pub longs : List ℕ → ℕ → ℕ → List ℕ
longs g i zero = []
longs g i (suc left) = (space ∷ hex 8 (get_or g i 0)) ++ longs g (i + 1) left

-- "answer N"
unfoldable pub answer_line : Reply → List ℕ
answer_line n = 97 ∷ 110 ∷ 115 ∷ 119 ∷ 101 ∷ 114 ∷ space ∷ digit (number_of n) ∷ newline ∷ []

-- "steps N"
unfoldable pub steps_line : ℕ → List ℕ
steps_line count = (115 ∷ 116 ∷ 101 ∷ 112 ∷ 115 ∷ space ∷ []) ++ (decimal 10 count ++ (newline ∷ []))

-- "pc", "sr", "d" and "a", "other" and "macsr", in hex
unfoldable pub pc_line : Cpu → List ℕ
pc_line s = (112 ∷ 99 ∷ space ∷ []) ++ (hex 8 s.pc ++ (newline ∷ []))

unfoldable pub sr_line : Cpu → List ℕ
sr_line s = (115 ∷ 114 ∷ space ∷ []) ++ (hex 4 s.sr ++ (newline ∷ []))

unfoldable pub data_line : Cpu → List ℕ
data_line s = (100 ∷ []) ++ (longs s.r 0 8 ++ (newline ∷ []))

unfoldable pub address_line : Cpu → List ℕ
address_line s = (97 ∷ []) ++ (longs s.r 8 8 ++ (newline ∷ []))

unfoldable pub other_line : Cpu → List ℕ
other_line s = (111 ∷ 116 ∷ 104 ∷ 101 ∷ 114 ∷ space ∷ []) ++ (hex 8 s.other ++ (newline ∷ []))

unfoldable pub macsr_line : Cpu → List ℕ
macsr_line s = (109 ∷ 97 ∷ 99 ∷ 115 ∷ 114 ∷ space ∷ []) ++ (hex 8 s.emac.macsr ++ (newline ∷ []))

-- all that a run of an image prints
unfoldable pub run_text : Reply → ℕ → Cpu → List ℕ
run_text n count s =
    answer_line n ++ (steps_line count ++ (pc_line s ++ (sr_line s ++ (data_line s ++ (address_line s ++ (other_line s ++ macsr_line s))))))

-- a text as it is handed back: 256 bytes, zeros after the text, and its length
pub record Printed : Type 0 where
  pub bytes : List ℕ
  pub len : ℕ

abbrev pub printed : List ℕ → ℕ → Printed
printed b n = record { bytes = b; len = n }

unfoldable pub text_of : List ℕ → Printed
text_of t = printed (t ++ replicate (256 - length t) 0) (length t)
