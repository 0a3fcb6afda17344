-- A server that is marked entry by entry: its entries below j are one run, and what holds once all of them are done.
-- Assumes nothing.
use Prim.Native.Nat.{ℕ, ◌+◌, ◌-◌, ◌≤◌, ◌<◌}
use mathlib.Core.Path.{◌≡◌, sym, ap, ◌∙◌}
use mathlib.Core.List.{List, map}
use native.Mathlib.Omega.{arith}
use lib.ListN.{length, take}
use lib.Seq.{take_all}
use Rattle.lists.specs.Below.{nth, upward}
use Rattle.medium.specs.Entry.{entry_at, mark_at, bears, live}
use Rattle.medium.specs.Burn.{burn_all, marks_on, invalidations}
use Rattle.medium.proofs.Places.{entry-on}
use Rattle.medium.proofs.Entries.{bears-cong, live_below}
use Rattle.medium.proofs.Marks.{length-marks_on}
use Rattle.medium.proofs.Burns.{length-invalidations}
use Rattle.marking.specs.Run.{marks_in}
use Rattle.marking.proofs.Runs.{server-below, server-run}
use Rattle.marking.proofs.Marked.{Marked}

-- the addresses of the marks of the live entries below j
unfoldable pub marks_below : ℕ → ℕ → List ℕ → ℕ → ℕ → ℕ → List ℕ
marks_below capacity used m id k j = map (mark_at capacity k) (upward (live capacity used m id k) j)

module _ (capacity used : ℕ) (m₀ : List ℕ) (id k content : ℕ) where
  -- `Marked` speaks of a run, which those entries are
  pub below-run : (j : ℕ) → j ≤ used → marks_below capacity used m₀ id k j ≡ marks_in m₀ id (entry_at capacity k 0) j
  unfolding marks_below
  below-run j l = server-below capacity used m₀ id k j l

  pub all_done : (burns before : ℕ) (m : List ℕ) (n : ℕ) → Marked m₀ id (entry_at capacity k 0) content burns before used m n
      → (n ≡ before + length (marks_on capacity used m₀ id k)) × (m ≡ burn_all m₀ (take (burns - before) (invalidations content (marks_on capacity used m₀ id k))))
  all_done burns before m n d = rw (server-run capacity used m₀ id k) (d.count, d.words)

  -- with burns for every entry all of them are made
  pub all_made : (n : ℕ) → used ≤ n → take n (invalidations content (marks_on capacity used m₀ id k)) ≡ invalidations content (marks_on capacity used m₀ id k)
  all_made n h = take_all n (invalidations content (marks_on capacity used m₀ id k)) (omega (arith, length-invalidations content (marks_on capacity used m₀ id k), length-marks_on capacity used m₀ id k))

  pub all_whole : (m : List ℕ) (n : ℕ) → Marked m₀ id (entry_at capacity k 0) content used 0 used m n
      → (n ≡ length (marks_on capacity used m₀ id k)) × (m ≡ burn_all m₀ (invalidations content (marks_on capacity used m₀ id k)))
  all_whole m n d =
      let a = all_done used 0 m n d in
      (omega (arith, a.0), a.1 ∙ ap (burn_all m₀) (all_made (used - 0) (omega arith)))

  -- the words of entry j are as lent where those below it are done, so that it bears the id exactly if it was live
  module _ {burns before j : ℕ} {m : List ℕ} {n : ℕ} (done : Marked m₀ id (entry_at capacity k 0) content burns before j m n) (below : j < used) where
    pub word_kept : (q : ℕ) → nth m (entry_at capacity k j + q) ≡ nth m₀ (entry_at capacity k j + q)
    word_kept q = done.same (entry_at capacity k j + q) (omega (arith, entry-on capacity k 0 j (omega arith)))

    pub live-kept : bears capacity m id k j ≡ live capacity used m₀ id k j
    live-kept =
        let first : entry_at capacity k j + 0 ≡ entry_at capacity k j = omega arith in
        bears-cong capacity m m₀ id k j (record { id_same = rw first at (word_kept 0); mark_same = word_kept 2 })
        ∙ sym (live_below capacity used m₀ id k j below)
