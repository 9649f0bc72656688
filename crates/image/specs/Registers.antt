-- The registers' fields by the sheet's names (document 01, "Memory", second paragraph), each a byte, a word or a flag at
-- its address. Unnamed bits count as 0. Assumes nothing.
use Rattle.std.specs.Prelude.{Bool, List, ℕ, ◌*◌, ◌%◌, ◌^◌, get_or}
use Rattle.image.specs.Fields.{word_at, put_word, flag_at, put_flag}

-- ---- what the tag reads

-- "0206h rate low, 0207h high": of the high byte six bits are named, so 14 bits in all
abbrev pub rate : List ℕ → ℕ
rate image = word_at image 0x0206 2 % 2 ^ 14

-- "0208h low, 0209h high threshold"
abbrev pub low_threshold : List ℕ → ℕ
low_threshold image = get_or image 0x0208 0

abbrev pub high_threshold : List ℕ → ℕ
high_threshold image = get_or image 0x0209 0

-- "0210h ETLA bit 0, ETHA 1"
abbrev pub etla : List ℕ → Bool
etla image = flag_at image 0x0210 0

abbrev pub etha : List ℕ → Bool
etha image = flag_at image 0x0210 1

-- "0212h EOSC 0, EHSS 1"
abbrev pub eosc : List ℕ → Bool
eosc image = flag_at image 0x0212 0

abbrev pub ehss : List ℕ → Bool
ehss image = flag_at image 0x0212 1

-- "0213h ETL 0, TLFS 2, RO 4, SUTA 5"
abbrev pub etl : List ℕ → Bool
etl image = flag_at image 0x0213 0

abbrev pub tlfs : List ℕ → Bool
tlfs image = flag_at image 0x0213 2

abbrev pub ro : List ℕ → Bool
ro image = flag_at image 0x0213 4

abbrev pub suta : List ℕ → Bool
suta image = flag_at image 0x0213 5

-- "0214h TLF 0, THF 1, BOR 7"
abbrev pub tlf : List ℕ → Bool
tlf image = flag_at image 0x0214 0

abbrev pub thf : List ℕ → Bool
thf image = flag_at image 0x0214 1

abbrev pub bor : List ℕ → Bool
bor image = flag_at image 0x0214 7

-- "0215h MIP 1, MEMCLR 3, WFTA 4"
abbrev pub mip : List ℕ → Bool
mip image = flag_at image 0x0215 1

abbrev pub memclr : List ℕ → Bool
memclr image = flag_at image 0x0215 3

abbrev pub wfta : List ℕ → Bool
wfta image = flag_at image 0x0215 4

-- "0216h delay, 3 bytes low first"
abbrev pub delay : List ℕ → ℕ
delay image = word_at image 0x0216 3

-- "0219h stamp, 6 bytes", as one number, the seconds lowest
abbrev pub stamp : List ℕ → ℕ
stamp image = word_at image 0x0219 6

-- "0220h mission samples, 0223h device samples, 3 bytes low first"
abbrev pub mission_samples : List ℕ → ℕ
mission_samples image = word_at image 0x0220 3

abbrev pub device_samples : List ℕ → ℕ
device_samples image = word_at image 0x0223 3

-- "With 0227h equal to AAh passwords are checked"
abbrev pub password_control : List ℕ → ℕ
password_control image = get_or image 0x0227 0

-- "Passwords (0228h, 0230h)": the sheet has the read access password at 0228h, the full access password at 0230h
abbrev pub read_password : List ℕ → ℕ
read_password image = word_at image 0x0228 8

abbrev pub full_password : List ℕ → ℕ
full_password image = word_at image 0x0230 8

-- ---- what the tag itself writes, at the same places

-- "020Ch reading bits 2-0 in bits 7-5, 020Dh bits 10-3": the reading times 32, low byte first
abbrev pub put_latest : List ℕ → ℕ → List ℕ
put_latest image reading = put_word image 0x020C 2 (reading * 32)

abbrev pub put_eosc : List ℕ → Bool → List ℕ
put_eosc image b = put_flag image 0x0212 0 b

abbrev pub put_tlf : List ℕ → Bool → List ℕ
put_tlf image b = put_flag image 0x0214 0 b

abbrev pub put_thf : List ℕ → Bool → List ℕ
put_thf image b = put_flag image 0x0214 1 b

abbrev pub put_bor : List ℕ → Bool → List ℕ
put_bor image b = put_flag image 0x0214 7 b

abbrev pub put_mip : List ℕ → Bool → List ℕ
put_mip image b = put_flag image 0x0215 1 b

abbrev pub put_memclr : List ℕ → Bool → List ℕ
put_memclr image b = put_flag image 0x0215 3 b

abbrev pub put_wfta : List ℕ → Bool → List ℕ
put_wfta image b = put_flag image 0x0215 4 b

abbrev pub put_delay : List ℕ → ℕ → List ℕ
put_delay image n = put_word image 0x0216 3 n

abbrev pub put_stamp : List ℕ → ℕ → List ℕ
put_stamp image six = put_word image 0x0219 6 six

abbrev pub put_mission_samples : List ℕ → ℕ → List ℕ
put_mission_samples image n = put_word image 0x0220 3 n

abbrev pub put_device_samples : List ℕ → ℕ → List ℕ
put_device_samples image n = put_word image 0x0223 3 n
