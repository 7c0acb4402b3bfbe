-- The bytes of a number are those of its lowest bits.
use Rattle.std.proofs.Common.{◌≡◌, ℕ, ◌/◌, ◌%◌, refl, arith}
use Rattle.xdr_codec.specs.Items.{u32_item, u64_item}

low_0 : (n : ℕ) → n % 4294967296 % 256 ≡ n % 256
low_0 n = omega arith

low_1 : (n : ℕ) → n % 4294967296 / 256 % 256 ≡ n / 256 % 256
low_1 n = omega arith

low_2 : (n : ℕ) → n % 4294967296 / 65536 % 256 ≡ n / 65536 % 256
low_2 n = omega arith

low_3 : (n : ℕ) → n % 4294967296 / 16777216 % 256 ≡ n / 16777216 % 256
low_3 n = omega arith

high_0 : (n : ℕ) → n % 18446744073709551616 % 256 ≡ n % 256
high_0 n = omega arith

high_1 : (n : ℕ) → n % 18446744073709551616 / 256 % 256 ≡ n / 256 % 256
high_1 n = omega arith

high_2 : (n : ℕ) → n % 18446744073709551616 / 65536 % 256 ≡ n / 65536 % 256
high_2 n = omega arith

high_3 : (n : ℕ) → n % 18446744073709551616 / 16777216 % 256 ≡ n / 16777216 % 256
high_3 n = omega arith

high_4 : (n : ℕ) → n % 18446744073709551616 / 4294967296 % 256 ≡ n / 4294967296 % 256
high_4 n = omega arith

high_5 : (n : ℕ) → n % 18446744073709551616 / 1099511627776 % 256 ≡ n / 1099511627776 % 256
high_5 n = omega arith

high_6 : (n : ℕ) → n % 18446744073709551616 / 281474976710656 % 256 ≡ n / 281474976710656 % 256
high_6 n = omega arith

high_7 : (n : ℕ) → n % 18446744073709551616 / 72057594037927936 % 256 ≡ n / 72057594037927936 % 256
high_7 n = omega arith

pub item_32 : (n : ℕ) → u32_item (n % 4294967296) ≡ u32_item n
unfolding u32_item
item_32 n = rw (low_0 n, low_1 n, low_2 n, low_3 n) refl

pub item_64 : (n : ℕ) → u64_item (n % 18446744073709551616) ≡ u64_item n
unfolding u64_item
item_64 n = rw (high_0 n, high_1 n, high_2 n, high_3 n, high_4 n, high_5 n, high_6 n, high_7 n) refl
