-- The used and the words of servers that a lookup does not open have no bearing on its reply (the second demand).
-- Assumes nothing.
use Prim.Native.Nat.{ℕ, zero, suc, ◌+◌, ◌<◌}
use mathlib.Core.Path.{◌≡◌, refl, sym, ap, ap₂, ◌∙◌}
use mathlib.Core.Bool.{true, cond, ◌&&◌}
use mathlib.Core.List.{List}
use Rattle.std.specs.Prelude.{Option, None, Some}
use native.Mathlib.Omega.{arith}
use native.Mathlib.Nat.{add-zero}
use lib.ListN.{length}
use lib.Dec.{leb, ltb, eqb}
use borrow.Author.Tests.{le-leb}
use Rattle.lists.specs.Below.{nth, highest}
use Rattle.lists.proofs.Tests.{and_i}
use Rattle.lists.proofs.Below.{highest-cong}
use Rattle.words.specs.Word.{tag_of, content_of}
use Rattle.medium.specs.Entry.{server_at, entry_at, value_at, live}
use Rattle.medium.proofs.Places.{entry_in, entry-above}
use Rattle.medium.proofs.Entries.{live-cong, live-used}
use Rattle.table.specs.declared.Table.{Table}
use Rattle.table.specs.Parts.{used_of, reads}
use Rattle.table.specs.Sound.{sound}
use Rattle.table.proofs.Soundness.{sound-facts}
use Rattle.replies.specs.Refusal.{first_of}
use Rattle.replies.specs.Reply.{refused, found}
use Rattle.replies.proofs.Refusals.{reply-same}
use Rattle.search.specs.declared.Place.{Place}
use Rattle.search.specs.Search.{Search, last_live, opening, search_below, search_for}
use Rattle.checks.specs.Ready.{short}
use Rattle.checks.proofs.Passed.{asked-same}
use Rattle.lookup.specs.Lookup.{lookup_rows, met_reply, lookup_reply}
use Rattle.search.specs.Opened.{lowest, opens, SameOpened}
use Rattle.search.proofs.Searches.{reads_same, search-cases, search-low, met_some}

module _ (t u : Table) (m w : List ℕ) (id : ℕ) where
  -- searches that read the same servers, and find the same last live entries on those that the first opens, are the same
  abbrev SameLast : ℕ → Search → Type 0
  SameLast n s = (k : ℕ) → k < n → leb (lowest s.met) k && reads t id k ≡ true → last_live t m id k ≡ last_live u w id k

  same-search : (n : ℕ) → ((k : ℕ) → k < n → reads t id k ≡ reads u id k) → SameLast n (search_below t m id n) → search_below t m id n ≡ search_below u w id n
  unfolding search_below opening lowest
  same-search zero r h = refl
  same-search (suc n) r h = search-cases t m id (λ (s : Search). SameLast (suc n) s → s ≡ search_below u w id (suc n)) n
      (λ e f. rw (sym (r n (omega arith)) ∙ e) (same-search n (λ k l. r k (omega arith)) (λ k l. f k (omega arith))))
      (λ e d f.
      let o : last_live u w id n ≡ None = sym (f n (omega arith) (and_i _ _ (search-low t m id n) e)) ∙ d in
      rw (sym (r n (omega arith)) ∙ e, o) (ap (opening n None) (same-search n (λ k l. r k (omega arith)) (λ k l. f k (omega arith)))))
      (λ j e d f.
      let o : last_live u w id n ≡ Some j = sym (f n (omega arith) (and_i _ _ (le-leb n n (omega arith)) e)) ∙ d in
      rw (sym (r n (omega arith)) ∙ e, o))
      h

  module _ (s : sound t ≡ true) (q : sound u ≡ true) (a : SameOpened t u m w id) where
    -- the words of an opened server's entries
    same_word : (k j i : ℕ) → k < t.count → opens t m id k ≡ true → j < used_of t k → i < 3
        → nth m (entry_at t.capacity k j + i) ≡ nth w (entry_at t.capacity k j + i)
    same_word k j i l o b c =
        let f = (sound-facts t s).server k l in
        a.words k _ l o (entry-above t.capacity k j i) (entry_in t.capacity (suc k) k j i (omega arith) (omega arith) c)

    same-last : (k : ℕ) → k < t.count → opens t m id k ≡ true → last_live t m id k ≡ last_live u w id k
    unfolding last_live
    same-last k l o =
        highest-cong (live t.capacity (used_of t k) m id k) (live t.capacity (used_of t k) w id k) (used_of t k)
        (λ j b. live-cong t.capacity (used_of t k) m w id k j (record {
          id_same = rw add-zero at (same_word k j 0 l o b (omega arith));
          mark_same = same_word k j 2 l o b (omega arith);
        }))
        ∙ ap₂ (λ (c n : ℕ). highest (live c n w id k) n) a.capacity (a.used k l o)

    pub same_met : search_for t m id ≡ search_for u w id
    unfolding search_for opens
    same_met = same-search t.count (λ k l. reads_same t u id k a.salt (a.read_ps k l)) same-last ∙ ap (search_below u w id) a.count

    -- the value word of the entry met
    same-value : (p : Place) → (search_for t m id).met ≡ Some p
        → nth m (value_at t.capacity p.server p.entry) ≡ nth w (value_at u.capacity p.server p.entry)
    unfolding opens lowest
    same-value p e =
        let b = met_some t m id p e in
        let o : opens t m id p.server ≡ true = rw e (and_i _ _ (le-leb p.server p.server (omega arith)) b.is_read) in
        same_word p.server p.entry 1 b.below o (live-used t.capacity (used_of t p.server) m id p.server p.entry b.is_live) (omega arith)
        ∙ ap (λ (c : ℕ). nth w (value_at c p.server p.entry)) a.capacity

    same-reply : (n : ℕ) (o : Option Place) → (search_for t m id).met ≡ o → met_reply t.capacity m n o ≡ met_reply u.capacity w n o
    unfolding met_reply
    same-reply n None e = refl
    same-reply n (Some p) e = ap (λ (x : ℕ). cond (eqb (tag_of x) 1) (found (content_of x) n) (refused 10 n)) (same-value p e)

    same_rows : (tenant : ℕ) → first_of (lookup_rows t m tenant id) ≡ first_of (lookup_rows u w tenant id)
    unfolding lookup_rows short
    same_rows tenant = asked-same t u m w tenant id _ (s ∙ sym q) a.count (ap₂ ltb a.long (ap₂ server_at a.capacity a.count))

    pub opened-by-values : (tenant : ℕ) → lookup_reply t m tenant id ≡ lookup_reply u w tenant id
    unfolding lookup_reply
    opened-by-values tenant = reply-same (lookup_rows t m tenant id) (lookup_rows u w tenant id) (same_rows tenant) _ _ (λ _.
        same-reply _ (search_for t m id).met refl
        ∙ ap (λ (x : Search). met_reply u.capacity w (length x.opened) x.met) same_met)
