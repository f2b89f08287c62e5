-- Bytes by name.
use Rattle.std.specs.Prelude.{ℕ}

abbrev pub tab : ℕ
tab = 9

abbrev pub line_feed : ℕ
line_feed = 10

abbrev pub carriage_return : ℕ
carriage_return = 13

abbrev pub space : ℕ
space = 32

abbrev pub bang : ℕ
bang = 33

abbrev pub double_quote : ℕ
double_quote = 34

abbrev pub number_sign : ℕ
number_sign = 35

abbrev pub dollar : ℕ
dollar = 36

abbrev pub ampersand : ℕ
ampersand = 38

abbrev pub single_quote : ℕ
single_quote = 39

abbrev pub paren_left : ℕ
paren_left = 40

abbrev pub paren_right : ℕ
paren_right = 41

abbrev pub asterisk : ℕ
asterisk = 42

abbrev pub plus : ℕ
plus = 43

abbrev pub comma : ℕ
comma = 44

abbrev pub minus : ℕ
minus = 45

abbrev pub dot : ℕ
dot = 46

abbrev pub slash : ℕ
slash = 47

abbrev pub digit_zero : ℕ
digit_zero = 48

abbrev pub digit_one : ℕ
digit_one = 49

-- what comes after the digits
abbrev pub after_nine : ℕ
after_nine = 58

abbrev pub colon : ℕ
colon = 58

abbrev pub equals : ℕ
equals = 61

abbrev pub question_mark : ℕ
question_mark = 63

abbrev pub at : ℕ
at = 64

abbrev pub bracket_left : ℕ
bracket_left = 91

abbrev pub backslash : ℕ
backslash = 92

abbrev pub bracket_right : ℕ
bracket_right = 93

abbrev pub underscore : ℕ
underscore = 95

abbrev pub backtick : ℕ
backtick = 96

abbrev pub letter_f : ℕ
letter_f = 102

abbrev pub letter_n : ℕ
letter_n = 110

abbrev pub letter_r : ℕ
letter_r = 114

abbrev pub letter_t : ℕ
letter_t = 116

abbrev pub letter_u : ℕ
letter_u = 117

abbrev pub brace_left : ℕ
brace_left = 123

abbrev pub bar : ℕ
bar = 124

abbrev pub brace_right : ℕ
brace_right = 125

abbrev pub tilde : ℕ
tilde = 126

-- the first number after ASCII
abbrev pub after_ascii : ℕ
after_ascii = 128

-- the numbers around the first bytes of characters of more than one byte
abbrev pub before_leads : ℕ
before_leads = 193

abbrev pub after_leads : ℕ
after_leads = 245
