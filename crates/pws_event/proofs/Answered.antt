-- What was read as an answer to an ask is in range.
use Rattle.std.proofs.Common.{◌≡◌, ℕ, ◌<◌, ◌≤◌, ◌^◌, All, IsTrue, List, length, Ok, sym, subst}
use Rattle.pws_base.specs.Fields.{Unread, ◌>>=◌, u8_within, u64_field, digest_field}
use Rattle.pws_event.specs.declared.readings.Reading.{Reading}
use Rattle.pws_event.specs.declared.readings.Share.{Share}
use Rattle.pws_event.specs.Readings.{IsClock, IsRandom, is_count}
use Rattle.pws_event.specs.EventFields.{reading_at, share_at, readings_at, shares_at}
use Rattle.pws_event.proofs.Fields.{bind_ok, u8_read, bytes_read}
use Rattle.pws_event.proofs.Rising.{rises, all_read}

-- the fields of a reading, of a share
pub reading_parts : (least : ℕ) (u : Unread) (x : Reading × Unread) → reading_at least u ≡ Ok x → (index : ℕ × Unread) × (ms : ℕ × Unread) × (u8_within least 9 u ≡ Ok index) × (u64_field index.1 ≡ Ok ms) × (x ≡ (record { index = index.0; ms = ms.0 }, ms.1))
unfolding reading_at
reading_parts least u x h =
    let i = bind_ok (u8_within least 9 u) (λ index. u64_field index.1 >>= (λ ms. Ok (record { index = index.0; ms = ms.0 }, ms.1))) x h in
    let m = bind_ok (u64_field i.0.1) (λ ms. Ok (record { index = i.0.0; ms = ms.0 }, ms.1)) x i.2 in
    (i.0, m.0, i.1, m.1, cc)

pub share_parts : (least : ℕ) (u : Unread) (x : Share × Unread) → share_at least u ≡ Ok x → (index : ℕ × Unread) × (bytes : List ℕ × Unread) × (u8_within least 9 u ≡ Ok index) × (digest_field index.1 ≡ Ok bytes) × (x ≡ (record { index = index.0; bytes = bytes.0 }, bytes.1))
unfolding share_at
share_parts least u x h =
    let i = bind_ok (u8_within least 9 u) (λ index. digest_field index.1 >>= (λ bytes. Ok (record { index = index.0; bytes = bytes.0 }, bytes.1))) x h in
    let m = bind_ok (digest_field i.0.1) (λ bytes. Ok (record { index = i.0.0; bytes = bytes.0 }, bytes.1)) x i.2 in
    (i.0, m.0, i.1, m.1, cc)

pub reading_within : (least : ℕ) (u : Unread) (x : Reading × Unread) → reading_at least u ≡ Ok x → (least ≤ x.0.index) × (x.0.index ≤ 9)
reading_within least u x h =
    let p = reading_parts least u x h in
    subst (λ (x : Reading × Unread). (least ≤ x.0.index) × (x.0.index ≤ 9)) (sym p.4) ((u8_read least 9 u p.0 p.2).1, (u8_read least 9 u p.0 p.2).2)

pub share_within : (least : ℕ) (u : Unread) (x : Share × Unread) → share_at least u ≡ Ok x → (least ≤ x.0.index) × (x.0.index ≤ 9)
share_within least u x h =
    let p = share_parts least u x h in
    subst (λ (x : Share × Unread). (least ≤ x.0.index) × (x.0.index ≤ 9)) (sym p.4) ((u8_read least 9 u p.0 p.2).1, (u8_read least 9 u p.0 p.2).2)

pub share_size : (least : ℕ) (u : Unread) (x : Share × Unread) → share_at least u ≡ Ok x → length x.0.bytes ≡ 32
share_size least u x h =
    let p = share_parts least u x h in
    subst (λ (x : Share × Unread). length x.0.bytes ≡ 32) (sym p.4) (bytes_read 32 p.0.1 p.1 p.3).0

pub clock_lawful : (ask count : ℕ) (u : Unread) (y : List Reading × Unread) → 1 ≤ ask → ask ≤ 1000000 → IsTrue (is_count count) → readings_at count u ≡ Ok y → All (λ r. r.ms < 2 ^ 64) y.0 → IsClock (record { ask = ask; readings = y.0 })
clock_lawful ask count u y a b n h times =
    let r = rises reading_at (λ r. r.index) reading_within count 0 u y h in
    record {
      ask_from = a;
      ask_to = b;
      count = subst (λ n. IsTrue (is_count n)) (sym r.0) n;
      indices = r.1;
      times = times;
    }

pub random_lawful : (ask count : ℕ) (u : Unread) (y : List Share × Unread) → 1 ≤ ask → ask ≤ 1000000 → IsTrue (is_count count) → shares_at count u ≡ Ok y → IsRandom (record { ask = ask; shares = y.0 })
random_lawful ask count u y a b n h =
    let r = rises share_at (λ s. s.index) share_within count 0 u y h in
    record {
      ask_from = a;
      ask_to = b;
      count = subst (λ n. IsTrue (is_count n)) (sym r.0) n;
      indices = r.1;
      sizes = all_read share_at (λ s. s.index) (λ s. length s.bytes ≡ 32) share_size count 0 u y h;
    }
