mod Text
