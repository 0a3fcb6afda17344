-- Calls and replies as words: eight words a call, eight words a reply. Each list is one call or reply after another.
--
--   word   of a call                        of a reply
--   0      number                           refusal
--   1      tenant of the caller             server
--   2      subject: id or server            value, its low 32 bits
--   3      amount: value or weight          value, its high bits
--   4      amount, its high bits            opened
--   5      limit                            invalidated
--   6      burns                            0
--   7      0                                0
--
-- A call's number says which of its words count, and no other is read. The burns are read of a write or a delete that makes a number
-- of its burns, and of no other call. No call reads its words 4, 5 and 7 yet, and word 3 of every reply is 0. All eight words of a reply
-- are written, a 0 where it carries nothing.
use Rattle.std.specs.Prelude.{ℕ, ◌+◌, ◌*◌, ◌/◌, min, List, set, Option}
use Rattle.lists.specs.Below.{nth}
use Rattle.calls.specs.declared.Call.{Call}
use Rattle.calls.specs.Numbered.{call_of}
use Rattle.replies.specs.declared.Reply.{Reply}

-- how many words a call has, and where those stand in it that are read
abbrev pub call_length : ℕ
call_length = 8

abbrev pub number_offset : ℕ
number_offset = 0

abbrev pub tenant_offset : ℕ
tenant_offset = 1

abbrev pub subject_offset : ℕ
subject_offset = 2

abbrev pub amount_offset : ℕ
amount_offset = 3

abbrev pub burns_offset : ℕ
burns_offset = 6

-- how many words a reply has, and where each stands in it
abbrev pub reply_length : ℕ
reply_length = 8

abbrev pub refusal_offset : ℕ
refusal_offset = 0

abbrev pub server_offset : ℕ
server_offset = 1

abbrev pub value_offset : ℕ
value_offset = 2

abbrev pub high_offset : ℕ
high_offset = 3

abbrev pub opened_offset : ℕ
opened_offset = 4

abbrev pub invalidated_offset : ℕ
invalidated_offset = 5

-- the last two carry nothing
abbrev pub spare_offset : ℕ
spare_offset = 6

abbrev pub last_offset : ℕ
last_offset = 7

-- the answer where words that are lent are too few, a number that no call gives
abbrev pub too_short : ℕ
too_short = 4294967294

-- as many calls as slices of these lengths both have room for
abbrev pub room_for : ℕ → ℕ → ℕ
room_for calls replies = min (calls / call_length) (replies / reply_length)

-- word k of call i, and of reply i
abbrev pub call_word : List ℕ → ℕ → ℕ → ℕ
call_word words i k = nth words (call_length * i + k)

abbrev pub reply_word : List ℕ → ℕ → ℕ → ℕ
reply_word words i k = nth words (reply_length * i + k)

-- the call whose words begin at a word, and call i
unfoldable pub call_from : List ℕ → ℕ → Option Call
call_from words at = call_of (nth words (at + number_offset)) (nth words (at + tenant_offset)) (nth words (at + subject_offset)) (nth words (at + amount_offset))

abbrev pub call_at : List ℕ → ℕ → Option Call
call_at words i = call_from words (call_length * i)

-- the eight words of a reply that begins at a word
unfoldable pub with_reply_at : List ℕ → ℕ → Reply → List ℕ
with_reply_at words at r =
    let refusal = set words (at + refusal_offset) r.refusal in
    let server = set refusal (at + server_offset) r.server in
    let value = set server (at + value_offset) r.value in
    let high = set value (at + high_offset) 0 in
    let opened = set high (at + opened_offset) r.opened in
    let invalidated = set opened (at + invalidated_offset) r.invalidated in
    let spare = set invalidated (at + spare_offset) 0 in
    set spare (at + last_offset) 0

-- the words of reply i
abbrev pub with_reply : List ℕ → ℕ → Reply → List ℕ
with_reply words i r = with_reply_at words (reply_length * i) r

-- the reply of eight words
unfoldable pub reply_from : List ℕ → Reply
reply_from words = record {
  refusal = nth words refusal_offset;
  server = nth words server_offset;
  value = nth words value_offset;
  opened = nth words opened_offset;
  invalidated = nth words invalidated_offset;
}
