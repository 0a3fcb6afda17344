-- Laws of the image of a table: how long it is, which word stands where, and that it is the same for two tables exactly where they
-- are equal below the count.
-- Assumes nothing.
use Prim.Native.Nat.{ℕ, ◌+◌, ◌*◌, ◌<◌}
use mathlib.Core.Path.{◌≡◌, refl, sym, ap, ap₂, ◌∙◌}
use mathlib.Core.List.{List, [], ◌∷◌, ◌++◌, append-nil}
use native.Mathlib.Omega.{arith}
use lib.ListN.{length, length-append}
use lib.Seq.{get_or-append-add}
use Rattle.limits.specs.Limits.{tenants}
use Rattle.lists.specs.Below.{nth, join_below}
use Rattle.lists.proofs.Below.{length-join, join-at, join-cong}
use Rattle.words.specs.Word.{tagged}
use Rattle.words.proofs.Words.{content-only}
use Rattle.table.specs.declared.Table.{Table}
use Rattle.table.specs.Parts.{weight_of, used_of, read_p, opened_of}
use Rattle.image.specs.Layout.{head_words, part_words, part_at, image_length, server_part, server_image, counter_image, image_of}
use Rattle.image.specs.Promises.{EqualBelow}

-- the words of the servers, and those of the counters
abbrev servers : Table → List ℕ
servers t = join_below (server_image t) t.count

abbrev counters : Table → List ℕ
counters t = join_below (counter_image t) tenants

length-servers : (t : Table) → length (servers t) ≡ part_words * t.count
length-servers t = length-join part_words (server_image t) (λ k. refl) t.count

length-counters : (t : Table) → length (counters t) ≡ tenants
length-counters t = length-join 1 (counter_image t) (λ k. refl) tenants

pub length-image : (t : Table) → length (image_of t) ≡ image_length t.count
unfolding image_of
length-image t = omega (arith, length-append (servers t) (counters t), length-servers t, length-counters t)

-- what stands behind capacity and salt
behind-head : (t : Table) (i j : ℕ) → j ≡ head_words + i → nth (image_of t) j ≡ nth (servers t ++ counters t) i
unfolding image_of
behind-head t i j e = rw e (get_or-append-add (tagged 0 t.capacity ∷ tagged 1 t.salt ∷ []) (servers t ++ counters t) i 0)

pub capacity-at : (t : Table) → nth (image_of t) 0 ≡ tagged 0 t.capacity
unfolding image_of
capacity-at t = refl

pub salt-at : (t : Table) → nth (image_of t) 1 ≡ tagged 1 t.salt
unfolding image_of
salt-at t = refl

pub server-at : (t : Table) (k i : ℕ) → k < t.count → i < part_words → nth (image_of t) (part_at k + i) ≡ nth (server_image t k) i
server-at t k i l m = behind-head t (part_words * k + i) (part_at k + i) (omega arith) ∙ join-at part_words (server_image t) (λ k. refl) t.count (counters t) k i l m

pub counter_at : (t : Table) (i : ℕ) → i < tenants → nth (image_of t) (part_at t.count + i) ≡ tagged 2 (opened_of t i)
counter_at t i l =
    let alone : nth (counters t ++ []) (1 * i + 0) ≡ tagged 2 (opened_of t i) = join-at 1 (counter_image t) (λ k. refl) tenants [] i 0 l (omega arith) in
    let here : 1 * i + 0 ≡ i = omega arith in
    behind-head t (length (servers t) + i) (part_at t.count + i) (omega (arith, length-servers t))
    ∙ get_or-append-add (servers t) (counters t) i 0
    ∙ rw (append-nil (counters t), here) at alone

-- tables equal below the count have equal images
pub equal-image : (t u : Table) → EqualBelow t u → image_of t ≡ image_of u
unfolding image_of
equal-image t u g =
    let b = g.below in
    let each : servers t ≡ join_below (server_image u) t.count = join-cong (server_image t) (server_image u) t.count
    (λ k l. ap₂ (λ (w n : ℕ). server_part w n (read_p t k)) (b.weight k l) (b.used k l) ∙ ap (server_part (weight_of u k) (used_of u k)) (b.read k l)) in
    let all : counters t ≡ counters u = join-cong (counter_image t) (counter_image u) tenants (λ i l. rw (g.counters i l)) in
    rw (each, all, b.capacity, b.salt, b.count)

-- and only those
module _ (t u : Table) (e : image_of t ≡ image_of u) where
  at_same : (i : ℕ) → nth (image_of t) i ≡ nth (image_of u) i
  at_same i = ap (λ (l : List ℕ). nth l i) e

  same_count : t.count ≡ u.count
  same_count = omega (arith, length-image t, length-image u, ap length e)

  part_same : (k i : ℕ) → k < t.count → i < part_words → nth (server_image t k) i ≡ nth (server_image u k) i
  part_same k i l m = sym (server-at t k i l m) ∙ at_same (part_at k + i) ∙ server-at u k i (omega (arith, same_count)) m

  counter-same : (i : ℕ) → i < tenants → tagged 2 (opened_of t i) ≡ tagged 2 (opened_of u i)
  counter-same i l = sym (counter_at t i l) ∙ at_same (part_at t.count + i) ∙ rw same_count (counter_at u i l)

  pub image-equal : EqualBelow t u
  image-equal = record {
    below = record {
      capacity = content-only 0 _ _ (sym (capacity-at t) ∙ at_same 0 ∙ capacity-at u);
      salt = content-only 1 _ _ (sym (salt-at t) ∙ at_same 1 ∙ salt-at u);
      count = same_count;
      weight = λ k l. content-only 1 _ _ (part_same k 0 l (omega arith));
      used = λ k l. content-only 2 _ _ (part_same k 1 l (omega arith));
      read = λ k l. ap₂ (λ (n d : ℕ). record { num = n; den = d }) (content-only 0 _ _ (part_same k 2 l (omega arith))) (content-only 1 _ _ (part_same k 3 l (omega arith)));
    };
    counters = λ i l. content-only 2 _ _ (counter-same i l);
  }
