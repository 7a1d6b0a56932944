-- The tables of the check on site, row by row: a word of the desk or `check`, two arguments, the number expected and what is told, with bars between them.
use Rattle.std.specs.Prelude.{◌∷◌, ◌++◌}
use Rattle.laws.specs.Base.{List, []}
use Rattle.paper.specs.Layout.{Bytes}
use Rattle.paper.specs.Listing.{text}

-- a semicolon behind each
unfoldable pub rows : List Bytes → Bytes
rows [] = []
rows (w ∷ ws) = w ++ 59 ∷ rows ws

-- codes of parties and areas: which character is wrong
unfoldable pub eics : Bytes
eics =
    rows
    (text "eic|10XAT-APG------Z||0|wrong character of EIC 10XAT-APG------Z"
    ∷ text "eic|10XAT-APG------Y||16|wrong character of EIC 10XAT-APG------Y"
    ∷ text "eic|10YAT-APG------L||0|wrong character of EIC 10YAT-APG------L"
    ∷ text "eic|14XAT-APCS-----Q||0|wrong character of EIC 14XAT-APCS-----Q"
    ∷ text "eic|14XBG-EMPFANG--0||0|wrong character of EIC 14XBG-EMPFANG--0"
    ∷ text "eic|14XBILANZGR-1--F||0|wrong character of EIC 14XBILANZGR-1--F"
    ∷ text "eic|13XBILANZGR-2--Q||0|wrong character of EIC 13XBILANZGR-2--Q"
    ∷ text "eic|10XAT-aPG------Z||7|wrong character of EIC 10XAT-aPG------Z"
    ∷ text "eic|10XAT-APG-----.Z||15|wrong character of EIC 10XAT-APG-----.Z"
    ∷ text "eic|10XAT-||7|wrong character of EIC 10XAT-"
    ∷ text "eic|10XAT-APG------ZZ||16|wrong character of EIC 10XAT-APG------ZZ"
    ∷ text "eic|000000000000000A||16|wrong character of EIC 000000000000000A"
    ∷ [])

-- texts that are no quantity
unfoldable pub quantities : Bytes
quantities =
    rows
    (text "kw|10000||30|number of quantity text \"10000\""
    ∷ text "kw|.5||30|number of quantity text \".5\""
    ∷ text "kw|1.||30|number of quantity text \"1.\""
    ∷ text "kw|||30|number of quantity text \"\""
    ∷ text "kw|-0||31|number of quantity text \"-0\""
    ∷ [])

-- a block that is zero but for one byte
unfoldable pub checks : Bytes
checks =
    rows
    (text "check|505|1|961|check with byte 505 alone 1"
    ∷ text "check|506|1|31|check with byte 506 alone 1"
    ∷ text "check|507|1|1|check with byte 507 alone 1"
    ∷ text "check|507|31|31|check with byte 507 alone 31, which collides"
    ∷ [])

-- positions before and after they close
unfoldable pub leads : Bytes
leads =
    rows
    (text "open|45||0|opening"
    ∷ text "clock|15||0|clock"
    ∷ text "final|5||25|lead 45, clock 15: final at position 5, still open"
    ∷ text "clock|16||0|clock"
    ∷ text "final|5||26|lead 45, clock 16: final at position 5, closed"
    ∷ text "open|0||0|opening"
    ∷ text "clock|0||0|clock"
    ∷ text "final|1||25|lead 0, clock 0: final at position 1, still open"
    ∷ text "clock|1||0|clock"
    ∷ text "final|1||26|lead 0, clock 1: final at position 1, closed"
    ∷ [])

-- versions of the seller's messages
unfoldable pub versions : Bytes
versions =
    rows
    (text "open|45||0|opening"
    ∷ text "submit|message BILANZ\nversion 1||0|the seller's first message"
    ∷ text "submit|message BILANZ\nversion 2||0|message with nothing changed"
    ∷ text "block|||1|and the series version kept"
    ∷ text "submit|message BILANZ\nversion 2||6|stored version 2, version 2 again"
    ∷ text "submit|message BILANZ\nversion 4||0|stored version 2, version 4"
    ∷ text "submit|message BILANZ\nversion 3||6|stored version 4, version 3"
    ∷ [])

-- a new series, positions 1 to 4 closed
unfoldable pub closed : Bytes
closed =
    rows
    (text "open|45||0|opening"
    ∷ text "submit|message BILANZ\nversion 1||0|the seller's first message"
    ∷ text "clock|15||0|clock"
    ∷ text "submit|message BILANZ\nversion 2|series TS0002\narea 10YAT-APG------L\nin 14XBILANZGR-1--F\nout 14XBG-EMPFANG--0\n4 0.005\n|14|new series with 5 kW at a closed position"
    ∷ text "submit|message BILANZ\nversion 2|series TS0002\narea 10YAT-APG------L\nin 14XBILANZGR-1--F\nout 14XBG-EMPFANG--0\n4 0\n|0|new series with 0 kW there"
    ∷ [])

-- C-14: a right of 5 MW, entered once, and what is sent on it
unfoldable pub rights : Bytes
rights =
    rows
    (text "open|45||0|opening"
    ∷ text "right|n 96\ncontract 1\nin-area 10YAT-APG------L\nout-area 10YCZ-CEPS-----N\nholder 14XBILANZGR-1--F\nagreement CEPS-APG-D-14356\n1-96 5\n||0|a right of 5 MW"
    ∷ text "right|n 96\ncontract 1\nin-area 10YAT-APG------L\nout-area 10YCZ-CEPS-----N\nholder 14XBILANZGR-1--F\nagreement CEPS-APG-D-14356\n1-96 6\n||40|the same right with other limits"
    ∷ text "submit|message BILANZ\nversion 1|series FPL02\ntype 3\ncontract 1\nagreement CEPS-APG-D-14356\nin-area 10YAT-APG------L\nout-area 10YCZ-CEPS-----N\nin 14XBILANZGR-1--F\nout 14XBILANZGR-1--F\n1-96 5\n|0|a series on it at its limit"
    ∷ text "submit|message BILANZ\nversion 2|series FPL02\ntype 3\ncontract 1\nagreement CEPS-APG-D-14356\nin-area 10YAT-APG------L\nout-area 10YCZ-CEPS-----N\nin 14XBILANZGR-1--F\nout 14XBILANZGR-1--F\n1-96 5\n96 5.001\n|19|the same with 1 kW more at position 96"
    ∷ text "submit|message BILANZ\nversion 2|series FPL03\ntype 3\ncontract 4\nagreement CEPS-APG-D-14356\nin-area 10YAT-APG------L\nout-area 10YCZ-CEPS-----N\nin 14XBILANZGR-1--F\nout 14XBILANZGR-1--F\n1-96 1\n|18|a series on a right that the sender does not hold"
    ∷ [])

-- the listing's example: the buyer files the same as the seller but for 44,000 kW at position 2. A count of 0 is no state of the old layout, a count of 1 passes
-- as one: then every mark is written anew
unfoldable pub listed : Bytes
listed =
    rows
    (text "open|45||0|opening"
    ∷ text "submit|message BILANZ\nversion 1||0|the seller's message"
    ∷ text "convert|||1|conversion, a series alone: its count 0 is no old state"
    ∷ text "message|message EMPFANG\nversion 1\nsender 14XBG-EMPFANG--0\nreceiver 14XAT-APCS-----Q\nday 20190131\nn 96\nseries FPL01\narea 10YAT-APG------L\nin 14XBG-EMPFANG--0\nout 14XBILANZGR-1--F\n1-96 45\n2 44\n||0|the buyer's message"
    ∷ text "convert|||0|conversion, both counts 1"
    ∷ [])

-- the listing then
unfoldable pub page : Bytes
page = text "slot sender series in out differ first partner\n2 14XBILANZGR-1--F TS0001 14XBG-EMPFANG--0 14XBILANZGR-1--F 1 2 4\n4 14XBG-EMPFANG--0 FPL01 14XBG-EMPFANG--0 14XBILANZGR-1--F 1 2 2\n"
