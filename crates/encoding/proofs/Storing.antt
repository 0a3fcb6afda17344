-- Where the words of a reply stand once it is stored, and that it is read back as it was.
-- Assumes nothing.
use Prim.Native.Nat.{ℕ, ◌+◌, ◌*◌, ◌≤◌, ◌<◌}
use mathlib.Core.Path.{◌≡◌, refl, ◌∙◌}
use mathlib.Core.List.{List}
use native.Mathlib.Omega.{arith}
use lib.ListN.{length, set, replicate, length-set}
use lib.Seq.{get_or-set_same, get_or-set_other}
use Rattle.lists.specs.Below.{nth}
use Rattle.replies.specs.declared.Reply.{Reply}
use Rattle.encoding.specs.Encoding.{reply_length, refusal_offset, server_offset, value_offset, high_offset, opened_offset, invalidated_offset, spare_offset, last_offset, reply_word, with_reply_at, with_reply, reply_from}

-- the words of reply i that are compared
pub record Stored (words : List ℕ) (i : ℕ) (r : Reply) : Type 0 where
  pub refusal : reply_word words i refusal_offset ≡ r.refusal
  pub server : reply_word words i server_offset ≡ r.server
  pub value : reply_word words i value_offset ≡ r.value
  pub opened : reply_word words i opened_offset ≡ r.opened

-- a reply's eight words
module _ (words : List ℕ) (n : ℕ) (r : Reply) where
  pub length-with_reply : length (with_reply words n r) ≡ length words
  unfolding with_reply_at
  length-with_reply = simp length-set

  -- where they begin; the words with the first of them, the first two and so on
  abbrev from : ℕ
  from = reply_length * n

  abbrev w₁ : List ℕ
  w₁ = set words (from + refusal_offset) r.refusal

  abbrev w₂ : List ℕ
  w₂ = set w₁ (from + server_offset) r.server

  abbrev w₃ : List ℕ
  w₃ = set w₂ (from + value_offset) r.value

  abbrev w₄ : List ℕ
  w₄ = set w₃ (from + high_offset) 0

  abbrev w₅ : List ℕ
  w₅ = set w₄ (from + opened_offset) r.opened

  abbrev w₆ : List ℕ
  w₆ = set w₅ (from + invalidated_offset) r.invalidated

  abbrev w₇ : List ℕ
  w₇ = set w₆ (from + spare_offset) 0

  -- a word below the next is as they leave it
  below₅ : (a : ℕ) → a < from + invalidated_offset → nth (with_reply words n r) a ≡ nth w₅ a
  unfolding with_reply_at
  below₅ a l =
      get_or-set_other w₇ (from + last_offset) a 0 0 (λ e. omega arith)
      ∙ get_or-set_other w₆ (from + spare_offset) a 0 0 (λ e. omega arith)
      ∙ get_or-set_other w₅ (from + invalidated_offset) a r.invalidated 0 (λ e. omega arith)

  below₃ : (a : ℕ) → a < from + high_offset → nth (with_reply words n r) a ≡ nth w₃ a
  below₃ a l =
      below₅ a (omega arith)
      ∙ get_or-set_other w₄ (from + opened_offset) a r.opened 0 (λ e. omega arith)
      ∙ get_or-set_other w₃ (from + high_offset) a 0 0 (λ e. omega arith)

  below₂ : (a : ℕ) → a < from + value_offset → nth (with_reply words n r) a ≡ nth w₂ a
  below₂ a l = below₃ a (omega arith) ∙ get_or-set_other w₂ (from + value_offset) a r.value 0 (λ e. omega arith)

  below₁ : (a : ℕ) → a < from + server_offset → nth (with_reply words n r) a ≡ nth w₁ a
  below₁ a l = below₂ a (omega arith) ∙ get_or-set_other w₁ (from + server_offset) a r.server 0 (λ e. omega arith)

  below₀ : (a : ℕ) → a < from → nth (with_reply words n r) a ≡ nth words a
  below₀ a l = below₁ a (omega arith) ∙ get_or-set_other words (from + refusal_offset) a r.refusal 0 (λ e. omega arith)

  pub stored_here : from + reply_length ≤ length words → Stored (with_reply words n r) n r
  stored_here fits = record {
    refusal = below₁ _ (omega arith) ∙ get_or-set_same words (from + refusal_offset) r.refusal 0 (omega arith);
    server = below₂ _ (omega arith) ∙ get_or-set_same w₁ (from + server_offset) r.server 0 (simp length-set (omega arith));
    value = below₃ _ (omega arith) ∙ get_or-set_same w₂ (from + value_offset) r.value 0 (simp length-set (omega arith));
    opened = below₅ _ (omega arith) ∙ get_or-set_same w₄ (from + opened_offset) r.opened 0 (simp length-set (omega arith));
  }

  pub stored-below : (i : ℕ) (q : Reply) → i < n → Stored words i q → Stored (with_reply words n r) i q
  stored-below i q l s = record {
    refusal = below₀ _ (omega arith) ∙ s.refusal;
    server = below₀ _ (omega arith) ∙ s.server;
    value = below₀ _ (omega arith) ∙ s.value;
    opened = below₀ _ (omega arith) ∙ s.opened;
  }

-- a reply that is stored over zeros is read back as it was
pub reply-back : (r : Reply) → reply_from (with_reply (replicate reply_length 0) 0 r) ≡ r
unfolding reply_from with_reply_at
reply-back r = refl
